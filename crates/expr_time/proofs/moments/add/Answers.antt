use Rattle.std.proofs.Common.{rules, ℤ, ap, ◌∙◌, ◌≡◌}
use Rattle.std.specs.Prelude.{Option}
use Rattle.std.specs.Int.{w64}
use mir.Val.{SFits}
use Rattle.std.proofs.lemmas.Int.{to_z-of_z}
use Rattle.std.proofs.Math.Path.{subst}
use Rattle.expr_value.specs.Answers.{Answer, ReturnsExactly}
use Rattle.expr_datetime.specs.ShiftedMoments.{moment_later}
use Rattle.expr_arguments.specs.Arguments.{answer_on}
use Rattle.expr_moment.specs.Zones.{moment_or_refusal}
use Rattle.expr_time.proofs.moments.add.Goals as goal

pub returns : goal.returns
returns c =
    let m = c.args.moment.now in
    let n = c.in-Some.nanoseconds in
    let fits : SFits w64 n = search rules in
    let found : c.checked_add_signed.result ≡ moment_later m n = c.checked_add_signed.ensures ∙ (λ i. moment_later (c.in_ok-moment.ensures.cases i) (to_z-of_z w64 n fits i)) in
    subst (λ (a : Answer). ReturnsExactly c.moment_or_refusal.result a) (ap moment_or_refusal found ∙ ap (λ (o : Option ℤ). answer_on o (λ k. moment_or_refusal (moment_later m k))) c.in-Some.ensures) c.moment_or_refusal.ensures
