use Rattle.std.proofs.Common.{rules, ℤ, ap, ◌∙◌, ◌≡◌}
use Rattle.std.specs.Prelude.{Option}
use Rattle.std.specs.Int.{w64, w128}
use mir.Val.{SFits}
use Rattle.std.proofs.lemmas.Int.{to_z-of_z}
use Rattle.std.proofs.Math.Path.{subst}
use Rattle.expr_value.specs.Answers.{Answer, ReturnsExactly}
use Rattle.expr_datetime.specs.ShiftedMoments.{at_instant}
use Rattle.expr_datetime.specs.Times.{instant, moment_zone}
use Rattle.expr_arguments.specs.Arguments.{answer_on}
use Rattle.expr_time.specs.Moments.{instant_truncated}
use Rattle.expr_moment.specs.Zones.{moment_or_refusal}
use Rattle.expr_time.proofs.moments.truncate.Goals as goal

pub returns : goal.returns
returns c =
    let m = c.args.moment.now in
    let n = c.as_nanosecond.result in
    let r = c.instant_truncated.result in
    let step = c.in-Some.step in
    let n_fits : SFits w128 n = search rules in
    let r_fits : SFits w128 r = search rules in
    let step_fits : SFits w64 step = search rules in
    let read : n ≡ instant m = c.as_nanosecond.ensures ∙ c.timestamp.ensures in
    let same : r ≡ instant_truncated (instant m) step = c.instant_truncated.ensures ∙ (λ i. instant_truncated ((to_z-of_z w128 n n_fits ∙ read) i) (to_z-of_z w64 step step_fits i)) in
    let found : c.in_ok-found.found ≡ at_instant (instant_truncated (instant m) step) (moment_zone m) = c.in_ok-found.ensures.ok ∙ ap (λ (k : ℤ). at_instant k (moment_zone m)) (to_z-of_z w128 r r_fits ∙ same) in
    subst (λ (a : Answer). ReturnsExactly c.moment_or_refusal.result a) (ap moment_or_refusal found ∙ ap (λ (o : Option ℤ). answer_on o (λ k. moment_or_refusal (at_instant (instant_truncated (instant m) k) (moment_zone m)))) c.in-Some.ensures) c.moment_or_refusal.ensures
