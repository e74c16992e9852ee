use Rattle.std.proofs.Common.{◌≡◌, true, arith, is_some}
use Rattle.std.proofs.lemmas.Grind.{common_steps}
use Rattle.expr_engine.specs.Engines.{waiting_inputs}
use Rattle.expr_engine.proofs.Turned.{known_meant, known_refused, known_some, stale_unknown, unknown_none}
use Rattle.expr_stops.specs.Stops.{waiting_call_of}
use Rattle.expr_engine.proofs.engine.Engine.knows_waiting.Goals as goal

pub returns-clause-found : goal.returns-clause-found
returns-clause-found c = known_some (waiting_inputs c.args.self.now) c.knows_run.result c.knows_run.ensures

pub returns-clause-unknown : goal.returns-clause-unknown
returns-clause-unknown c = λ stale. stale_unknown (waiting_inputs c.args.self.now) c.knows_run.result c.knows_run.ensures stale.1

pub returns-clause-refused : goal.returns-clause-refused
returns-clause-refused c = known_refused (waiting_inputs c.args.self.now) c.knows_run.result c.knows_run.ensures

pub returns-clause-known : goal.returns-clause-known
returns-clause-known c = λ is.
    let waits : is_some (waiting_call_of c.args.self.now.waits.stops) ≡ true = grind (arith, common_steps) in
    (waits, unknown_none (waiting_inputs c.args.self.now) c.knows_run.result c.knows_run.ensures is)

pub returns-clause-misused : goal.returns-clause-misused
returns-clause-misused c = λ why is. absurd (known_meant (waiting_inputs c.args.self.now) c.knows_run.result c.knows_run.ensures why is)
