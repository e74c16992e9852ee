use Rattle.std.proofs.Common.{◌≡◌, ℕ, ◌<◌, ◌-◌, ◌∷◌, ◌∙◌, List, Ok, Err, refl, sym, ap, subst, length, map, reverse, arith}
use Rattle.std.specs.Vec.{vec_len, with_item}
use Rattle.expr_acts.specs.Here.{here}
use Rattle.expr_arguments.specs.Cow.{cow_value}
use Rattle.expr_code.specs.CallBinds.{bound_helds}
use Rattle.expr_acts.specs.Texts.{text_of}
use Rattle.expr_code.specs.InMemory.{op_of}
use Rattle.expr_code.specs.Instructions.{Op}
use Rattle.expr_frames.proofs.Frames.{asking}
use Rattle.expr_frames.proofs.Passing.{goes_from}
use Rattle.expr_frames.proofs.Walking.{long_in_memory}
use Rattle.expr_frames.specs.Ready.{ops_of}
use Rattle.expr_frames.specs.Runs.{State, Waiting}
use Rattle.expr_limits.specs.MeterView.{MeterView}
use Rattle.expr_limits.specs.Rooms.{is_limited, rooms}
use Rattle.expr_limits.specs.declared.limit.Limit.{Limit}
use Rattle.expr_lowering.specs.Blocks.{blocks_of}
use Rattle.expr_machine.proofs.Answered.{frame_asking, frame_running, front_of}
use Rattle.expr_machine.proofs.Counted.{blocks_count}
use Rattle.expr_machine.proofs.Folding.{block_asked, folding_ends, frames_put, frames_top, next_asked, next_limited, none_left, slots_left}
use Rattle.expr_machine.proofs.Told.{limit_goes}
use Rattle.expr_machine.specs.Folding.{FoldsAt, FoldsOnTop}
use Rattle.expr_machine.specs.Seen as seen
use Rattle.expr_machine.specs.Seen.{waiting_of}
use Rattle.expr_meaning.specs.World.{World}
use Rattle.expr_predicates.specs.Accumulators.{pending_args}
use Rattle.expr_stack.specs.Bindings.{BindsItem}
use Rattle.expr_stack.specs.Held.{owner_if}
use Rattle.expr_machine.proofs.machine.Machine.ask_next.Goals as goal

pub block_of-at-requires : goal.block_of-at-requires
block_of-at-requires g c =
    let self = c.args.self.now in
    let s : State = seen.state_of g.H.Functions.host g.P.ContextProvider.context g.L.Pointer.held (text_of g.N.Pointer.held) g.M.Meter.metered self in
    let w : World = here g.H.Functions.host g.P.ContextProvider.context self.world.now in
    let B : List (List Op) = blocks_of g.L.Pointer.held (text_of g.N.Pointer.held) self.code.now in
    let was : MeterView = g.M.Meter.metered self.meter in
    let frame = c.in-Some.frame.now in
    let f : Waiting = waiting_of frame in
    let fs : List Waiting = reverse (map waiting_of (front_of self.frames.items)) in
    let some : 0 < vec_len self.frames = c.in-Some.ensures.variant.0 refl in
    let waiting : s.frames ≡ f ∷ fs = frames_top self.frames frame some c.in-Some.ensures.value in
    let k : FoldsAt (is_limited was.room) B s f fs = subst (FoldsOnTop (is_limited was.room) B s) waiting c.requires.1 in
    let inside : self.number < length B = block_asked w B s f fs was waiting c.requires.0 k in
    omega (arith, inside, blocks_count g.L.Pointer.held (text_of g.N.Pointer.held) self.code.now)

pub returns-in_err-enter-in-Some-next_cow-clause-goes : goal.returns-in_err-enter-in-Some-next_cow-clause-goes
returns-in_err-enter-in-Some-next_cow-clause-goes g c =
    let self = c.args.self.now in
    let s : State = seen.state_of g.H.Functions.host g.P.ContextProvider.context g.L.Pointer.held (text_of g.N.Pointer.held) g.M.Meter.metered self in
    let w : World = here g.H.Functions.host g.P.ContextProvider.context self.world.now in
    let B : List (List Op) = blocks_of g.L.Pointer.held (text_of g.N.Pointer.held) self.code.now in
    let was : MeterView = g.M.Meter.metered self.meter in
    let frame = c.in-Some.frame.now in
    let f : Waiting = waiting_of frame in
    let fs : List Waiting = reverse (map waiting_of (front_of self.frames.items)) in
    let some : 0 < vec_len self.frames = c.in-Some.ensures.variant.0 refl in
    let waiting : s.frames ≡ f ∷ fs = frames_top self.frames frame some c.in-Some.ensures.value in
    let k : FoldsAt (is_limited was.room) B s f fs = subst (FoldsOnTop (is_limited was.room) B s) waiting c.requires.1 in
    let mid = c.next_cow.new.self in
    let item = cow_value c.in-Some-next_cow.item in
    let next = c.in-Some-next_cow.ensures in
    let V = g.L.Pointer.held in
    let T = text_of g.N.Pointer.held in
    let long : length (ops_of B self.number) ≡ length c.block_of-at.result.now = long_in_memory B self.number (op_of V T) c.block_of-at.result.now c.block_of-at.ensures.block in
    let at : ℕ = length c.block_of-at.result.now in
    let at_is : at ≡ length (ops_of B self.number) = sym long in
    let limit : Limit = g.M.Meter.limit c.in_err-enter-in-Some-next_cow.field-0.0 in
    let is : MeterView = g.M.Meter.metered c.enter.new.self in
    limit_goes g.M.RunMeter.halt _ c.from_residual.result c.from_residual.ensures.1 w B _ is _ limit (g.met.M.RunMeter.passes c.in_err-enter-in-Some-next_cow.field-0.0 _ c.in_err-enter-in-Some-next_cow.ensures.0) c.in_err-enter-in-Some-next_cow.ensures.0
    (next_limited w B s f fs was waiting c.requires.0 k mid item next.question next.out limit (subst (λ n. rooms.enters n was.room (Err limit)) at_is c.in_err-enter-in-Some-next_cow.ensures.1))

pub bind-requires : goal.bind-requires
bind-requires g c =
    let self = c.args.self.now in
    let s : State = seen.state_of g.H.Functions.host g.P.ContextProvider.context g.L.Pointer.held (text_of g.N.Pointer.held) g.M.Meter.metered self in
    let w : World = here g.H.Functions.host g.P.ContextProvider.context self.world.now in
    let B : List (List Op) = blocks_of g.L.Pointer.held (text_of g.N.Pointer.held) self.code.now in
    let was : MeterView = g.M.Meter.metered self.meter in
    let frame = c.in-Some.frame.now in
    let f : Waiting = waiting_of frame in
    let fs : List Waiting = reverse (map waiting_of (front_of self.frames.items)) in
    let some : 0 < vec_len self.frames = c.in-Some.ensures.variant.0 refl in
    let waiting : s.frames ≡ f ∷ fs = frames_top self.frames frame some c.in-Some.ensures.value in
    let k : FoldsAt (is_limited was.room) B s f fs = subst (FoldsOnTop (is_limited was.room) B s) waiting c.requires.1 in
    slots_left w B s f fs was waiting c.requires.0 k

pub returns-in_ok-bind-in-Some-next_cow-clause-goes : goal.returns-in_ok-bind-in-Some-next_cow-clause-goes
returns-in_ok-bind-in-Some-next_cow-clause-goes g c =
    let self = c.args.self.now in
    let s : State = seen.state_of g.H.Functions.host g.P.ContextProvider.context g.L.Pointer.held (text_of g.N.Pointer.held) g.M.Meter.metered self in
    let w : World = here g.H.Functions.host g.P.ContextProvider.context self.world.now in
    let B : List (List Op) = blocks_of g.L.Pointer.held (text_of g.N.Pointer.held) self.code.now in
    let was : MeterView = g.M.Meter.metered self.meter in
    let frame = c.in-Some.frame.now in
    let f : Waiting = waiting_of frame in
    let fs : List Waiting = reverse (map waiting_of (front_of self.frames.items)) in
    let some : 0 < vec_len self.frames = c.in-Some.ensures.variant.0 refl in
    let waiting : s.frames ≡ f ∷ fs = frames_top self.frames frame some c.in-Some.ensures.value in
    let k : FoldsAt (is_limited was.room) B s f fs = subst (FoldsOnTop (is_limited was.room) B s) waiting c.requires.1 in
    let mid = c.next_cow.new.self in
    let item = cow_value c.in-Some-next_cow.item in
    let next = c.in-Some-next_cow.ensures in
    let V = g.L.Pointer.held in
    let T = text_of g.N.Pointer.held in
    let long : length (ops_of B self.number) ≡ length c.block_of-at.result.now = long_in_memory B self.number (op_of V T) c.block_of-at.result.now c.block_of-at.ensures.block in
    let at : ℕ = length c.block_of-at.result.now in
    let at_is : at ≡ length (ops_of B self.number) = sym long in
    let is : MeterView = g.M.Meter.metered c.enter.new.self in
    let bound = subst (λ b. BindsItem f.slot s.memory c.bind.new.self (bound_helds (owner_if b) f.binds (pending_args mid item))) next.lent c.in_ok-bind-in-Some-next_cow.ensures.bound in
    let last = record frame { run = c.bind.new.run; mark = c.mark-frame.result } in
    let gs : List Waiting = reverse (map waiting_of (with_item self.frames (vec_len self.frames - 1) last).items) in
    let put = frames_put self.frames frame last some ∙ ap (λ w. w ∷ fs) (frame_asking frame c.bind.new.run c.mark-frame.result (c.bind.ensures.lent ∙ c.next_cow.ensures.same)) ∙ ap (λ m. asking c.bind.new.run m f ∷ fs) c.mark-frame.ensures in
    next_asked w B s f fs was waiting c.requires.0 k mid item next.question next.out c.bind.new.run c.bind.ensures.awaits c.bind.ensures.left c.bind.new.self bound is
    (c.in_ok-enter-in-Some-next_cow.ensures.0, subst (λ n. rooms.enters n was.room (Ok is.room)) at_is c.in_ok-enter-in-Some-next_cow.ensures.1) at c.clear.new.self gs at_is c.clear.ensures put

pub finish-requires : goal.finish-requires
finish-requires g c =
    let self = c.args.self.now in
    let s : State = seen.state_of g.H.Functions.host g.P.ContextProvider.context g.L.Pointer.held (text_of g.N.Pointer.held) g.M.Meter.metered self in
    let w : World = here g.H.Functions.host g.P.ContextProvider.context self.world.now in
    let B : List (List Op) = blocks_of g.L.Pointer.held (text_of g.N.Pointer.held) self.code.now in
    let was : MeterView = g.M.Meter.metered self.meter in
    let frame = c.in-Some.frame.now in
    let f : Waiting = waiting_of frame in
    let fs : List Waiting = reverse (map waiting_of (front_of self.frames.items)) in
    let some : 0 < vec_len self.frames = c.in-Some.ensures.variant.0 refl in
    let waiting : s.frames ≡ f ∷ fs = frames_top self.frames frame some c.in-Some.ensures.value in
    let k : FoldsAt (is_limited was.room) B s f fs = subst (FoldsOnTop (is_limited was.room) B s) waiting c.requires.1 in
    let last = record frame { run = c.next_cow.new.self } in
    let gs : List Waiting = reverse (map waiting_of (with_item self.frames (vec_len self.frames - 1) last).items) in
    (c.requires.0, none_left w B s f fs was waiting c.requires.0 k c.next_cow.new.self (c.next_cow.ensures.done c.in-None.is) gs (frames_put self.frames frame last some ∙ ap (λ w. w ∷ fs) (frame_running frame c.next_cow.new.self c.next_cow.ensures.same)))

pub returns-in-None-clause-goes : goal.returns-in-None-clause-goes
returns-in-None-clause-goes g c =
    let self = c.args.self.now in
    let s : State = seen.state_of g.H.Functions.host g.P.ContextProvider.context g.L.Pointer.held (text_of g.N.Pointer.held) g.M.Meter.metered self in
    let w : World = here g.H.Functions.host g.P.ContextProvider.context self.world.now in
    let B : List (List Op) = blocks_of g.L.Pointer.held (text_of g.N.Pointer.held) self.code.now in
    let was : MeterView = g.M.Meter.metered self.meter in
    let frame = c.in-Some.frame.now in
    let f : Waiting = waiting_of frame in
    let fs : List Waiting = reverse (map waiting_of (front_of self.frames.items)) in
    let some : 0 < vec_len self.frames = c.in-Some.ensures.variant.0 refl in
    let waiting : s.frames ≡ f ∷ fs = frames_top self.frames frame some c.in-Some.ensures.value in
    let k : FoldsAt (is_limited was.room) B s f fs = subst (FoldsOnTop (is_limited was.room) B s) waiting c.requires.1 in
    let last = record frame { run = c.next_cow.new.self } in
    let gs : List Waiting = reverse (map waiting_of (with_item self.frames (vec_len self.frames - 1) last).items) in
    goes_from (here g.H.Functions.host g.P.ContextProvider.context c.finish.new.self.world.now) (blocks_of g.L.Pointer.held (text_of g.N.Pointer.held) c.finish.new.self.code.now) _ _
    (folding_ends w B s f fs gs c.next_cow.new.self was.room waiting (frames_put self.frames frame last some ∙ ap (λ w. w ∷ fs) (frame_running frame c.next_cow.new.self c.next_cow.ensures.same)) (c.next_cow.ensures.done c.in-None.is) c.in-None.ensures.question)
    (g.M.Meter.metered c.finish.new.self.meter) (seen.state_of g.H.Functions.host g.P.ContextProvider.context g.L.Pointer.held (text_of g.N.Pointer.held) g.M.Meter.metered c.finish.new.self) _ c.finish.ensures.goes
