use Rattle.std.proofs.Common.{◌≡◌, ◌+◌, ◌/◌, ◌%◌, ◌++◌, ◌∙◌, ap, rules, w32}
use Rattle.std.specs.Prelude.{unsigned_abs}
use Rattle.std.proofs.Output.{has_written_append, has_written_of_eq}
use Rattle.std.proofs.lemmas.Int.{to_z-of_z}
use mir.Val.{SFits, of_z, to_z}
use Rattle.expr_datetime.specs.Digits.{digits}
use Rattle.expr_datetime.specs.Moments.{sign_of}
use Rattle.expr_datetime.proofs.offset.show_offset.Goals as goal

pub returns : goal.returns
unfolding Rattle.expr_datetime.specs.Moments.offset_text
returns g c plain ok =
    let n = c.seconds-seconds.result in
    let fits : SFits w32 n = search rules in
    let same : to_z w32 (of_z w32 n) ≡ c.args.ahead.seconds = to_z-of_z w32 n fits ∙ c.seconds-seconds.ensures in
    let size : c.unsigned_abs.result ≡ unsigned_abs c.args.ahead.seconds = c.unsigned_abs.ensures.value ∙ ap unsigned_abs same in
    let sign = c.show_sign.ensures plain (search rules) in
    let hours = c.show_digits.ensures sign.plain (search rules) in
    let between = c.write_str.ensures.writes hours.plain (search rules) in
    let minutes = c.show_digits-2.ensures between.plain ok in
    has_written_of_eq _ _ _ _ _
    (λ i. sign_of (same i) ++ digits 2 ((size i + 30) / 60 / 60) ++ c.args.between.now ++ digits 2 ((size i + 30) / 60 % 60))
    (has_written_append _ _ _ _ _ _ (has_written_append _ _ _ _ _ _ (has_written_append _ _ _ _ _ _ sign hours) between) minutes)
