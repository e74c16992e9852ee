use Rattle.std.proofs.Common.{List, ap, sym, subst}
use Rattle.expr_acts.specs.Here.{here}
use Rattle.expr_acts.specs.Texts.{text_of}
use Rattle.expr_code.specs.Instructions.{Op}
use Rattle.expr_frames.proofs.Passing.{goes_from}
use Rattle.expr_frames.specs.Runs.{State}
use Rattle.expr_limits.specs.MeterView.{MeterView}
use Rattle.expr_lowering.specs.Blocks.{blocks_of}
use Rattle.expr_machine.proofs.Told.{halt_goes, told_as}
use Rattle.expr_machine.specs.Seen as seen
use Rattle.expr_machine.specs.Seen.{NoPattern}
use Rattle.expr_meaning.specs.World.{World}
use Rattle.expr_machine.proofs.machine.Machine.answer.Goals as goal

pub returns-in_err-take_answer-clause-goes : goal.returns-in_err-take_answer-clause-goes
returns-in_err-take_answer-clause-goes g c =
    let new = c.take_answer.new.self in
    let s : State = seen.state_of g.H.Functions.host g.P.ContextProvider.context g.L.Pointer.held (text_of g.N.Pointer.held) g.M.Meter.metered new in
    let w : World = here g.H.Functions.host g.P.ContextProvider.context new.world.now in
    let B : List (List Op) = blocks_of g.L.Pointer.held (text_of g.N.Pointer.held) new.code.now in
    let is : MeterView = g.M.Meter.metered new.meter in
    halt_goes g.M.RunMeter.halt _ c.from_residual.result c.from_residual.ensures.1 w B _ is s (g.M.RunMeter.halt c.in_err-take_answer.field-0.0) (λ h same. ap g.M.RunMeter.halt same) c.in_err-take_answer.ensures.folds

pub returns-in_err-take_answer-clause-pattern : goal.returns-in_err-take_answer-clause-pattern
returns-in_err-take_answer-clause-pattern g c =
    subst NoPattern (sym (told_as g.M.RunMeter.halt _ (g.M.RunMeter.halt c.in_err-take_answer.field-0.0) (λ h same. ap g.M.RunMeter.halt same) c.from_residual.result c.from_residual.ensures.1)) c.in_err-take_answer.ensures.pattern

pub ask_next-requires : goal.ask_next-requires
ask_next-requires g c = c.in_ok-take_answer.ensures.folds.0

pub returns-clause-goes : goal.returns-clause-goes
returns-clause-goes g c =
    let new = c.ask_next.new.self in
    goes_from (here g.H.Functions.host g.P.ContextProvider.context new.world.now) (blocks_of g.L.Pointer.held (text_of g.N.Pointer.held) new.code.now) _ _
    c.in_ok-take_answer.ensures.folds.1 (g.M.Meter.metered new.meter) (seen.state_of g.H.Functions.host g.P.ContextProvider.context g.L.Pointer.held (text_of g.N.Pointer.held) g.M.Meter.metered new) _ c.ask_next.ensures.goes
