use Rattle.std.proofs.Common.{◌≡◌, Option, MatchOption, IfErr, IfOk, IsSomeAnd, refl, subst}
use Rattle.expr_engine.specs.Effects.{HandsIn}
use Rattle.expr_engine.specs.Reasons.{KindRefuses}
use Rattle.expr_exchange.specs.declared.host_error.HostError.{HostError}
use Rattle.expr_exchange.specs.declared.host_error.HostError.TheVariants.{Misuse}
use Rattle.expr_exchange.specs.declared.misuse.Misuse.TheVariants as wrong
use Rattle.expr_exchange.specs.declared.kind.Kind.{Kind}
use Rattle.expr_engine.proofs.building.value_of_call.Goals as goal

pub returns-in-Some-clause-value : goal.returns-in-Some-clause-value
returns-in-Some-clause-value c =
    subst (λ (o : Option Kind). IfOk c.value_of_kind.result (λ v. IsSomeAnd o (λ kind. HandsIn kind c.args.engine.now c.value_of_kind.new.engine c.args.call.now v))) c.in-Some.ensures c.value_of_kind.ensures.value

pub returns-in-Some-clause-why : goal.returns-in-Some-clause-why
returns-in-Some-clause-why c =
    subst (λ (o : Option Kind). IfErr c.value_of_kind.result (λ e. MatchOption o (e ≡ Misuse wrong.UnknownKind) (λ kind. KindRefuses kind c.args.engine.now c.args.call.now e))) c.in-Some.ensures c.value_of_kind.ensures.why

pub returns-in-None-clause-why : goal.returns-in-None-clause-why
returns-in-None-clause-why c =
    let refused : HostError = Misuse wrong.UnknownKind in
    subst (λ (o : Option Kind). MatchOption o (refused ≡ Misuse wrong.UnknownKind) (λ kind. KindRefuses kind c.args.engine.now c.args.call.now refused)) c.in-None.ensures refl
