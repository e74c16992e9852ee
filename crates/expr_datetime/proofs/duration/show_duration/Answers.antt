use Rattle.std.proofs.Common.{◌++◌, ◌∙◌, ap, rules}
use Rattle.std.specs.Int.{w64}
use Rattle.std.specs.Prelude.{unsigned_abs}
use Rattle.std.proofs.Output.{has_written_append, has_written_of_eq}
use Rattle.std.proofs.lemmas.Int.{to_z-of_z}
use mir.Val.{SFits}
use Rattle.expr_datetime.specs.Digits.{minus}
use Rattle.expr_datetime.specs.Durations.{length_text}
use Rattle.expr_datetime.proofs.duration.show_duration.Goals as goal

pub returns : goal.returns
returns g c plain ok =
    let n = c.args.nanoseconds.now in
    let fits : SFits w64 n = search rules in
    let same = to_z-of_z w64 n fits in
    let sign = c.show_minus.ensures plain (search rules) in
    has_written_of_eq _ _ _ _ _ (λ i. minus (same i) ++ length_text ((c.unsigned_abs.ensures.value ∙ ap unsigned_abs same) i))
    (has_written_append _ _ _ _ _ _ sign (c.show_length.ensures sign.plain ok))
