use Rattle.std.proofs.Common.{◌++◌, ◌∙◌, ap, rules, w16, w64}
use Rattle.std.specs.Prelude.{unsigned_abs}
use Rattle.std.proofs.Output.{has_written_append, has_written_of_eq}
use Rattle.std.proofs.lemmas.Int.{to_z-of_z}
use mir.Val.{SFits, of_z, to_z}
use Rattle.expr_datetime.specs.Digits.{digits, minus}
use Rattle.expr_datetime.proofs.moment_text.show_year.Goals as goal

pub returns : goal.returns
unfolding Rattle.expr_datetime.specs.Moments.year_text
returns g c plain ok =
    let n = c.args.year in
    let fits : SFits w16 n = search rules in
    let same = to_z-of_z w16 n fits in
    let widened = ap (λ m. to_z w64 (of_z w64 m)) same ∙ to_z-of_z w64 n (search rules) in
    let sign = c.show_minus.ensures plain (search rules) in
    has_written_of_eq _ _ _ _ _ (λ i. minus (widened i) ++ digits 4 ((c.unsigned_abs.ensures.value ∙ ap unsigned_abs same) i))
    (has_written_append _ _ _ _ _ _ sign (c.show_digits.ensures sign.plain ok))
