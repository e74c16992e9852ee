use Rattle.std.proofs.Common.{◌++◌, codes, rules, w8}
use Rattle.std.proofs.Output.{has_written_append, has_written_of_eq}
use Rattle.expr_datetime.specs.Digits.{digits}
use Rattle.expr_datetime.proofs.Casts.{cast_stays}
use Rattle.expr_datetime.proofs.moment_text.show_time.Goals as goal

pub returns : goal.returns
unfolding Rattle.expr_datetime.specs.Moments.time_text
returns g c plain ok =
    let t = c.args.time in
    let hour = cast_stays w8 c.hour.result t.hour (search rules) c.hour.ensures in
    let minute = cast_stays w8 c.minute.result t.minute (search rules) c.minute.ensures in
    let second = cast_stays w8 c.second.result t.second (search rules) c.second.ensures in
    let hours = c.show_digits.ensures plain (search rules) in
    let colon = c.write_str.ensures.writes hours.plain (search rules) in
    let minutes = c.show_digits-2.ensures colon.plain (search rules) in
    let colon_too = c.write_str-2.ensures.writes minutes.plain (search rules) in
    let seconds = c.show_digits-3.ensures colon_too.plain ok in
    let to_minutes = has_written_append _ _ _ _ _ _ (has_written_append _ _ _ _ _ _ hours colon) minutes in
    has_written_of_eq _ _ _ _ _ (λ i. digits 2 (hour i) ++ codes ":" ++ digits 2 (minute i) ++ codes ":" ++ digits 2 (second i))
    (has_written_append _ _ _ _ _ _ (has_written_append _ _ _ _ _ _ to_minutes colon_too) seconds)
