use Rattle.expr_engine.proofs.Unchanged.{additions_by_exchange, on_err}
use Rattle.expr_engine.proofs.engine.Engine.add_name.Goals as goal

pub returns-in_err-done-clause-err : goal.returns-in_err-done-clause-err
returns-in_err-done-clause-err c = on_err c.from_residual.result
    (additions_by_exchange c.args.self.now.environments c.swap.new.self c.swap-kept.new.self c.args.environment c.new-host.result c.swap.new.thing c.add_name-done.new.self c.swap.ensures.found c.swap-kept.ensures.found c.swap.ensures.given c.add_name-done.ensures.zones c.add_name-done.ensures.moment c.in_err-done.ensures.err c.add_name-done.ensures.versions)
