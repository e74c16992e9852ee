use Rattle.std.proofs.Common.{rules}
use Rattle.std.proofs.Output.{has_written_append}
use Rattle.expr_datetime.proofs.moment_text.show_stamp_line.Goals as goal

pub returns : goal.returns
returns g c plain ok =
    let date = c.show_date.ensures plain (search rules) in
    let space = c.write_str.ensures.writes date.plain (search rules) in
    let time = c.show_time.ensures space.plain (search rules) in
    let fraction = c.show_short_fraction.ensures time.plain (search rules) in
    let space_too = c.write_str-2.ensures.writes fraction.plain (search rules) in
    let offset = c.show_offset.ensures space_too.plain ok in
    let to_time = has_written_append _ _ _ _ _ _ (has_written_append _ _ _ _ _ _ date space) time in
    let to_fraction = has_written_append _ _ _ _ _ _ to_time fraction in
    has_written_append _ _ _ _ _ _ (has_written_append _ _ _ _ _ _ to_fraction space_too) offset
