use Rattle.std.proofs.Common.{ap}
use Rattle.expr_engine.specs.Engines.{waiting_inputs}
use Rattle.expr_engine.specs.declared.waiting_run.WaitingRun.{WaitingRun}
use Rattle.expr_engine.proofs.Turned.{stood_as, used_as, went_as}
use Rattle.expr_exchange.specs.Cursor.{part_of}
use Rattle.expr_engine.proofs.engine.Engine.go_on.Goals as goal

pub returns-clause-ended : goal.returns-clause-ended
returns-clause-ended c =
    went_as (waiting_inputs c.args.self.now) c.args.self.now.waits.stops c.replace-stops.result c.turn-answer.result c.keep.result (part_of c.keep.new.self.answer) c.replace-stops.ensures.value c.turn-answer.ensures.ended c.keep.ensures.passed

pub returns-clause-stops : goal.returns-clause-stops
returns-clause-stops c =
    stood_as (waiting_inputs c.args.self.now) c.args.self.now.waits.stops c.replace-stops.result c.turn-answer.new.stops c.keep.new.self.waits.stops c.turn-answer.result c.keep.result (part_of c.keep.new.self.answer)
    c.replace-stops.ensures.value (ap (λ (w : WaitingRun). w.stops) c.keep.ensures.waits) c.turn-answer.ensures.stops c.keep.ensures.passed

pub returns-clause-used : goal.returns-clause-used
returns-clause-used c =
    used_as (waiting_inputs c.args.self.now) c.turn-answer.new.stops c.keep.new.self.waits.stops c.turn-answer.result c.keep.result (part_of c.keep.new.self.answer)
    (ap (λ (w : WaitingRun). w.stops) c.keep.ensures.waits) c.turn-answer.ensures.used c.keep.ensures.passed
