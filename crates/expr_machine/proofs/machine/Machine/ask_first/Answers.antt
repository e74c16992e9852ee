use Rattle.std.proofs.Common.{◌+◌, List, Ok, refl, ap, ◌∙◌, subst, length, arith}
use Rattle.expr_arguments.specs.Cow.{cow_value}
use Rattle.expr_acts.specs.Here.{here}
use Rattle.expr_acts.specs.Texts.{text_of}
use Rattle.expr_code.specs.CallBinds.{bound_count, bound_helds}
use Rattle.expr_code.specs.InMemory.{op_of}
use Rattle.expr_code.specs.Instructions.{Op}
use Rattle.expr_frames.proofs.Passing.{goes_from}
use Rattle.expr_frames.proofs.Walking.{long_in_memory, safe_block}
use Rattle.expr_frames.specs.Machines.{ComesReplied}
use Rattle.expr_frames.specs.Runs.{State}
use Rattle.expr_frames.specs.declared.halt.Awaited.TheVariants.{Kept}
use Rattle.expr_limits.specs.MeterView.{MeterView}
use Rattle.expr_limits.specs.Rooms.{size_left}
use Rattle.expr_lowering.specs.Blocks.{blocks_of}
use Rattle.expr_machine.proofs.Asking.{Asking, asking_done, asking_none, asking_passes, frame_is, frames_are}
use Rattle.expr_machine.proofs.Counted.{blocks_count}
use Rattle.expr_machine.proofs.Told.{limit_goes}
use Rattle.expr_machine.specs.Seen as seen
use Rattle.expr_machine.specs.Seen.{told}
use Rattle.expr_meaning.specs.World.{World}
use Rattle.expr_predicates.specs.Accumulators.{pending_args}
use Rattle.expr_stack.specs.Bindings.{BindsItem}
use Rattle.expr_stack.specs.Held.{owner_if}
use Rattle.expr_machine.proofs.machine.Machine.ask_first.Goals as goal

pub room_for_frame-requires : goal.room_for_frame-requires
room_for_frame-requires g c =
    let V = g.L.Pointer.held in
    let T = text_of g.N.Pointer.held in
    let code = c.args.self.now.code.now in
    let call = c.args.call.now in
    let there = safe_block (blocks_of V T code) (c.args.self.now.number + 1 + call.block) (call.slot + bound_count call.binds) c.requires.asks in
    omega (arith, there.0, blocks_count V T code, c.len.ensures)

pub overflow_add-number-in-Some : goal.overflow_add-number-in-Some
overflow_add-number-in-Some g c =
    let V = g.L.Pointer.held in
    let T = text_of g.N.Pointer.held in
    let code = c.args.self.now.code.now in
    let call = c.args.call.now in
    let there = safe_block (blocks_of V T code) (c.args.self.now.number + 1 + call.block) (call.slot + bound_count call.binds) c.requires.asks in
    omega (arith, there.0, blocks_count V T code, code.later.ok.0, code.later.ok.1, code.later.small)

pub block_of-at-requires : goal.block_of-at-requires
block_of-at-requires g c =
    let V = g.L.Pointer.held in
    let T = text_of g.N.Pointer.held in
    let code = c.args.self.now.code.now in
    let call = c.args.call.now in
    let there = safe_block (blocks_of V T code) (c.args.self.now.number + 1 + call.block) (call.slot + bound_count call.binds) c.requires.asks in
    omega (arith, there.0, blocks_count V T code)

pub returns-in_err-enter-in-Some-clause-goes : goal.returns-in_err-enter-in-Some-clause-goes
returns-in_err-enter-in-Some-clause-goes g c =
    let s : State = seen.state_of g.H.Functions.host g.P.ContextProvider.context g.L.Pointer.held (text_of g.N.Pointer.held) g.M.Meter.metered c.args.self.now in
    let w : World = here g.H.Functions.host g.P.ContextProvider.context c.args.self.now.world.now in
    let B : List (List Op) = blocks_of g.L.Pointer.held (text_of g.N.Pointer.held) c.args.self.now.code.now in
    let was : MeterView = g.M.Meter.metered c.args.self.now.meter in
    let call = c.args.call.now in
    let keeping = c.args.keeping in
    let is : MeterView = g.M.Meter.metered c.enter.new.self in
    let bound = subst (λ b. BindsItem call.slot s.memory c.bind.new.self (bound_helds (owner_if b) call.binds (pending_args c.next_cow.new.self (cow_value c.in-Some.item)))) c.in-Some.ensures.lent c.in_ok-bind-in-Some.ensures.bound in
    let stop = c.in_err-enter-in-Some.field-0.0 in
    limit_goes g.M.RunMeter.halt _ c.from_residual-in_err-enter-in-Some.result c.from_residual-in_err-enter-in-Some.ensures.1 w B _ is _ (g.M.Meter.limit stop) (g.met.M.RunMeter.passes stop _ c.in_err-enter-in-Some.ensures.0) c.in_err-enter-in-Some.ensures.0 (
    asking_passes w B s call.block call.slot call.binds keeping.keeps keeping.called keeping.first c.args.run was
    c.requires.given.0 c.requires.given.1 c.requires.slots c.requires.floor c.requires.asks c.next_cow.new.self c.bind.new.run (cow_value c.in-Some.item) c.in-Some.ensures.question c.in-Some.ensures.out c.bind.ensures.left c.bind.ensures.awaits
    c.bind.new.self bound (length c.block_of-at.result.now)
    (long_in_memory B (s.number + 1 + call.block) (op_of g.L.Pointer.held (text_of g.N.Pointer.held)) c.block_of-at.result.now c.block_of-at.ensures.block)
    (g.M.Meter.limit stop) c.in_err-enter-in-Some.ensures.1
    )

pub returns-in_ok-enter-in-Some-clause-goes : goal.returns-in_ok-enter-in-Some-clause-goes
returns-in_ok-enter-in-Some-clause-goes g c =
    let s : State = seen.state_of g.H.Functions.host g.P.ContextProvider.context g.L.Pointer.held (text_of g.N.Pointer.held) g.M.Meter.metered c.args.self.now in
    let w : World = here g.H.Functions.host g.P.ContextProvider.context c.args.self.now.world.now in
    let B : List (List Op) = blocks_of g.L.Pointer.held (text_of g.N.Pointer.held) c.args.self.now.code.now in
    let was : MeterView = g.M.Meter.metered c.args.self.now.meter in
    let call = c.args.call.now in
    let keeping = c.args.keeping in
    let is : MeterView = g.M.Meter.metered c.enter.new.self in
    let bound = subst (λ b. BindsItem call.slot s.memory c.bind.new.self (bound_helds (owner_if b) call.binds (pending_args c.next_cow.new.self (cow_value c.in-Some.item)))) c.in-Some.ensures.lent c.in_ok-bind-in-Some.ensures.bound in
    asking_done w B s call.block call.slot call.binds keeping.keeps keeping.called keeping.first c.args.run was
    c.requires.given.0 c.requires.given.1 c.requires.slots c.requires.floor c.requires.asks c.next_cow.new.self c.bind.new.run (cow_value c.in-Some.item) c.in-Some.ensures.question c.in-Some.ensures.out c.bind.ensures.left c.bind.ensures.awaits
    c.bind.new.self bound (length c.block_of-at.result.now)
    (long_in_memory B (s.number + 1 + call.block) (op_of g.L.Pointer.held (text_of g.N.Pointer.held)) c.block_of-at.result.now c.block_of-at.ensures.block)
    is c.requires.fold c.requires.begins c.requires.keeps c.in_ok-enter-in-Some.ensures
    _ (
    frames_are c.args.self.now.frames.items c.room_for_frame.new.frames.items c.push_reserved.new.self.items _ c.room_for_frame.ensures.items c.push_reserved.ensures.items _
    (frame_is c.bind.new.run _ _ call.slot call.binds keeping.keeps keeping.called keeping.first s c.replace.result c.places-places.result c.mark-mark.result (size_left was.room) (ap owner_if (c.bind.ensures.lent ∙ c.next_cow.ensures.same)) c.replace.ensures.value c.places-places.ensures.places c.mark-mark.ensures)
    )
    c.replace.new.dest c.stack-stack.result c.replace.ensures.after c.stack-stack.ensures

pub returns-in_ok-answer-in-None-clause-goes : goal.returns-in_ok-answer-in-None-clause-goes
returns-in_ok-answer-in-None-clause-goes g c =
    let s : State = seen.state_of g.H.Functions.host g.P.ContextProvider.context g.L.Pointer.held (text_of g.N.Pointer.held) g.M.Meter.metered c.args.self.now in
    let w : World = here g.H.Functions.host g.P.ContextProvider.context c.args.self.now.world.now in
    let B : List (List Op) = blocks_of g.L.Pointer.held (text_of g.N.Pointer.held) c.args.self.now.code.now in
    let was : MeterView = g.M.Meter.metered c.args.self.now.meter in
    let call = c.args.call.now in
    let keeping = c.args.keeping in
    let v = c.in_ok-answer-in-None.answer in
    let is : MeterView = g.M.Meter.metered c.give.new.self.meter in
    let new : State = seen.state_of g.H.Functions.host g.P.ContextProvider.context g.L.Pointer.held (text_of g.N.Pointer.held) g.M.Meter.metered c.give.new.self in
    goes_from (here g.H.Functions.host g.P.ContextProvider.context c.give.new.self.world.now) (blocks_of g.L.Pointer.held (text_of g.N.Pointer.held) c.give.new.self.code.now) (ComesReplied w B s (Kept keeping.called) (Ok v) was.room) (Asking w B s call.block call.slot call.binds keeping.keeps keeping.called keeping.first c.args.run was)
    (asking_none w B s call.block call.slot call.binds keeping.keeps keeping.called keeping.first c.args.run was c.in-None.ensures.question v (λ t rs stands. c.in_ok-answer-in-None.ensures t rs (c.in-None.ensures.done refl t rs stands)))
    is new (told g.M.RunMeter.halt c.give.result) c.give.ensures.goes
