use Rattle.std.proofs.Common.{◌∙◌, ap}
use Rattle.expr_datetime.specs.declared.moment.MomentZone.TheVariants.{Named}
use Rattle.expr_moment.proofs.InZone.{placed_same}
use Rattle.expr_moment.proofs.zones.in_zone.Goals as goal

pub returns-clause-ok : goal.returns-clause-ok
returns-clause-ok c =
    placed_same c.args.moment.now c.zoned.result (Named c.args.zone.now) (c.zoned.ensures.instant ∙ c.timestamp.ensures) (c.zoned.ensures.place ∙ ap Named c.in_ok-clone.ensures.cases)
