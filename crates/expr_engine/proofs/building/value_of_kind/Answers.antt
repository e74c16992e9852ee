use Rattle.std.proofs.Common.{IfErr, IfOk, refl, rules, subst, w64}
use Rattle.std.proofs.lemmas.Int.{to_z-of_z}
use Rattle.std.proofs.lemmas.Result.{IfErr-weaker, IfOk-weaker}
use mir.Val.{SFits}
use Rattle.expr_engine.specs.Effects.{HandsIn}
use Rattle.expr_engine.specs.Reasons.{KindRefuses}
use Rattle.expr_engine.proofs.Handed.{hands_scalar, refuses_scalar}
use Rattle.expr_exchange.specs.Refusals.{NotMeant}
use Rattle.expr_exchange.specs.Scalars.{HasScalar, IsScalar}
use Rattle.expr_engine.proofs.building.value_of_kind.Goals as goal

pub returns-in_default-clause-value : goal.returns-in_default-clause-value
returns-in_default-clause-value c =
    let kind = c.args.kind in
    let engine = c.args.engine.now in
    let call = c.args.call.now in
    let r = c.scalar_of.result in
    let fits : SFits w64 call.number = search rules in
    IfOk-weaker r (IsScalar kind call.number call.fraction call.text.now) (HandsIn kind engine engine call) (λ v s. hands_scalar kind engine engine call v s refl)
    (subst (λ n. IfOk r (IsScalar kind n call.fraction call.text.now)) (to_z-of_z w64 call.number fits) c.scalar_of.ensures.ok)

pub returns-in_default-clause-why : goal.returns-in_default-clause-why
returns-in_default-clause-why c =
    let kind = c.args.kind in
    let engine = c.args.engine.now in
    let call = c.args.call.now in
    let r = c.scalar_of.result in
    let fits : SFits w64 call.number = search rules in
    IfErr-weaker r (NotMeant (HasScalar kind call.number call.fraction call.text.now)) (KindRefuses kind engine call)
    (λ e m. refuses_scalar kind engine call e c.in_default.not-Built c.in_default.not-Looked c.in_default.not-Json m)
    (subst (λ n. IfErr r (NotMeant (HasScalar kind n call.fraction call.text.now))) (to_z-of_z w64 call.number fits) c.scalar_of.ensures.refused)
