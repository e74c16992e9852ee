use Rattle.std.proofs.Common.{◌≡◌, true, arith, is_some}
use Rattle.std.proofs.lemmas.Grind.{common_steps}
use Rattle.expr_engine.specs.Adding.{GainsVersions}
use Rattle.expr_exchange.specs.HandleMap.{thing_at}
use Rattle.expr_engine.proofs.Unchanged.{changes_by_exchange}
use Rattle.expr_engine.proofs.engine.Engine.add_versions.Goals as goal

pub returns-clause-added : goal.returns-clause-added
returns-clause-added c =
    let environments = c.args.self.now.environments in
    let known : is_some (thing_at environments c.args.environment) ≡ true = grind (arith, common_steps) in
    changes_by_exchange GainsVersions environments c.swap.new.self c.swap-kept.new.self c.args.environment c.new-host.result c.swap.new.thing c.add_versions.new.self c.swap.ensures.found c.swap-kept.ensures.found known c.swap.ensures.given c.add_versions.ensures
