use Rattle.std.proofs.Common.{◌∙◌}
use Rattle.expr_datetime.specs.Times.{instant, moment_zone}
use Rattle.expr_moment.proofs.InZone.{fixed_place}
use Rattle.expr_moment.proofs.zones.in_same_zone.Goals as goal

pub returns-in-None-clause-place : goal.returns-in-None-clause-place
returns-in-None-clause-place c =
    let m = c.args.moment.now in
    c.fixed.ensures.place ∙ fixed_place (moment_zone m) (instant m) c.offset.result c.in-None.ensures c.offset.ensures
