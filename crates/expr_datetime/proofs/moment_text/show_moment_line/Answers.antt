use Rattle.std.proofs.Common.{rules}
use Rattle.std.proofs.Output.{has_written_append}
use Rattle.expr_datetime.proofs.moment_text.show_moment_line.Goals as goal

pub returns : goal.returns
returns g c plain ok =
    let date = c.show_date.ensures plain (search rules) in
    let mark = c.write_str.ensures.writes date.plain (search rules) in
    let time = c.show_time.ensures mark.plain (search rules) in
    let fraction = c.show_fraction.ensures time.plain (search rules) in
    let offset = c.show_offset.ensures fraction.plain ok in
    let to_time = has_written_append _ _ _ _ _ _ (has_written_append _ _ _ _ _ _ date mark) time in
    has_written_append _ _ _ _ _ _ (has_written_append _ _ _ _ _ _ to_time fraction) offset
