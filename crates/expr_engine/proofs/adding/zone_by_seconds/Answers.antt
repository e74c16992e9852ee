use Rattle.std.proofs.Common.{IsUtf8}
use Rattle.std.proofs.lemmas.Result.{IfErr-weaker}
use Rattle.expr_engine.specs.Reasons.{RefusesZone}
use Rattle.expr_engine.proofs.Refusing.{zone_misused, zone_refused, zone_unknown}
use Rattle.expr_exchange.specs.declared.misuse.Misuse.TheVariants.{NotUtf8}
use Rattle.expr_exchange.proofs.Refused.{passed_so}
use Rattle.expr_engine.proofs.adding.zone_by_seconds.Goals as goal

pub returns-in_err-knows_environment-clause-why : goal.returns-in_err-knows_environment-clause-why
returns-in_err-knows_environment-clause-why c =
    let e = c.in_err-knows_environment.field-0.0 in
    passed_so c.from_residual.result e (RefusesZone (IsUtf8 c.args.call.now.name.now)) c.from_residual.ensures.1 (zone_unknown (IsUtf8 c.args.call.now.name.now) e c.in_err-knows_environment.ensures.why)

pub returns-in_err-name-clause-why : goal.returns-in_err-name-clause-why
returns-in_err-name-clause-why c =
    let e = c.in_err-name.field-0.0 in
    passed_so c.from_residual-in_err-name.result e (RefusesZone (IsUtf8 c.args.call.now.name.now)) c.from_residual-in_err-name.ensures.1
    (zone_misused (IsUtf8 c.args.call.now.name.now) e NotUtf8 c.in_err-name.ensures.refused.0 (λ are. c.in_err-name.ensures.refused.1 are))

pub returns-clause-why : goal.returns-clause-why
returns-clause-why c =
    IfErr-weaker c.add_zone.result (RefusesZone (Unit {0})) (RefusesZone (IsUtf8 c.args.call.now.name.now)) (λ e refuses. zone_refused (IsUtf8 c.args.call.now.name.now) e refuses) c.add_zone.ensures.why
