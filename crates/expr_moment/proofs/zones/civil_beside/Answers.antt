use Rattle.std.proofs.Common.{ap, ◌∙◌}
use Rattle.std.proofs.lemmas.Result.{IfOk-weaker}
use Rattle.expr_datetime.specs.Times.{instant, moment_zone}
use Rattle.expr_datetime.specs.declared.moment.MomentZone.{MomentZone}
use Rattle.expr_moment.specs.Zones.{at_civil}
use Rattle.expr_moment.proofs.InZone.{fixed_place, zone_place}
use Rattle.expr_moment.proofs.zones.civil_beside.Goals as goal

pub returns-in-Some-clause-ok : goal.returns-in-Some-clause-ok
returns-in-Some-clause-ok c =
    let place = zone_place (moment_zone c.args.moment.now) c.in-Some.zone.now c.in-Some.ensures in
    IfOk-weaker c.civil_in_zone.result _ _ (λ t e. e ∙ ap (λ (p : MomentZone). at_civil p c.args.civil) place) c.civil_in_zone.ensures.ok

pub returns-in-None-clause-ok : goal.returns-in-None-clause-ok
returns-in-None-clause-ok c =
    let m = c.args.moment.now in
    c.civil_at_offset.ensures ∙ ap (λ (p : MomentZone). at_civil p c.args.civil) (fixed_place (moment_zone m) (instant m) c.offset.result c.in-None.ensures c.offset.ensures)
