use Rattle.std.proofs.Common.{rules, ◌≡◌, ◌∙◌, Option}
use Rattle.std.specs.Int.{w64}
use mir.Val.{SFits}
use Rattle.std.proofs.lemmas.Int.{to_z-of_z}
use Rattle.std.proofs.Math.Path.{subst}
use Rattle.expr_value.specs.Answers.{ReturnsExactly}
use Rattle.expr_datetime.specs.ShiftedMoments.{moment_earlier}
use Rattle.expr_datetime.specs.declared.moment.DateTimeValue.{DateTimeValue}
use Rattle.expr_moment.specs.Zones.{moment_or_refusal}
use Rattle.expr_operators.proofs.moments.earlier.Goals as goal

pub returns : goal.returns
returns c =
    let m = c.args.moment.now in
    let n = c.args.nanoseconds.now in
    let fits : SFits w64 n = search rules in
    let found : c.checked_sub_signed.result ≡ moment_earlier m n = c.checked_sub_signed.ensures ∙ (λ i. moment_earlier (c.in_ok-moment.ensures.cases i) (to_z-of_z w64 n fits i)) in
    subst (λ (o : Option DateTimeValue). ReturnsExactly c.moment_or_refusal.result (moment_or_refusal o)) found c.moment_or_refusal.ensures
