use Rattle.std.proofs.Common.{◌∙◌, rules}
use Rattle.std.specs.Int.{w128}
use mir.Val.{SFits}
use Rattle.std.proofs.lemmas.Int.{to_z-of_z}
use Rattle.expr_datetime.specs.Times.{moment_zone}
use Rattle.expr_moment.proofs.InZone.{found_at}
use Rattle.expr_moment.proofs.zones.at_instant.Goals as goal

pub returns-in_ok-in_same_zone-in-Ok-clause-ok : goal.returns-in_ok-in_same_zone-in-Ok-clause-ok
returns-in_ok-in_same_zone-in-Ok-clause-ok c =
    let n = c.args.nanoseconds in
    let fits : SFits w128 n = search rules in
    found_at c.in_ok-in_same_zone-in-Ok.field-0 n (moment_zone c.args.moment.now) (c.in_ok-in_same_zone-in-Ok.ensures.instant ∙ c.in-Ok.ensures.value ∙ to_z-of_z w128 n fits) c.in_ok-in_same_zone-in-Ok.ensures.place
