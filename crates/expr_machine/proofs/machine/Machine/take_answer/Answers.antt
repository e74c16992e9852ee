use Rattle.std.proofs.Common.{◌≡◌, ◌<◌, ◌-◌, ◌∷◌, ◌∙◌, List, None, refl, sym, ap, subst, map, reverse, arith}
use Rattle.std.specs.Vec.{vec_len, with_item}
use Rattle.expr_acts.specs.Here.{here}
use Rattle.expr_acts.specs.Texts.{text_of}
use Rattle.expr_code.specs.Instructions.{Op}
use Rattle.expr_error.specs.ErrorKind.{error_kind, evaluation}
use Rattle.expr_frames.proofs.Frames.{end_one}
use Rattle.expr_frames.specs.Machines.{Allowed}
use Rattle.expr_frames.specs.Ready.{AllWaitButTop, IsReady}
use Rattle.expr_frames.specs.Runs.{State, Waiting}
use Rattle.expr_frames.specs.declared.halt.Halt.TheVariants as halt
use Rattle.expr_limits.specs.Counting.{refuses, stops}
use Rattle.expr_limits.specs.MeterView.{MeterView}
use Rattle.expr_limits.specs.Rooms.{is_limited}
use Rattle.expr_lowering.specs.Blocks.{blocks_of}
use Rattle.expr_machine.proofs.Answered.{frame_running, front_of}
use Rattle.expr_machine.proofs.Folding.{all_wait, cut_comes, cut_folds, frames_last, frames_put, frames_top, halt_folds, result_comes, result_denied, result_folds, result_limited}
use Rattle.expr_machine.proofs.Patterns.{evaluation_not}
use Rattle.expr_machine.proofs.Told.{error_no_pattern}
use Rattle.expr_machine.specs.Calls.{ComesAfter, MayAnswer}
use Rattle.expr_machine.specs.Seen as seen
use Rattle.expr_machine.specs.Seen.{IsAnswered, waiting_of}
use Rattle.expr_meaning.specs.World.{World}
use Rattle.expr_stack.specs.Cells.{cell_value, top_of}
use Rattle.expr_value.specs.declared.value.Value.{Value}
use Rattle.expr_machine.proofs.machine.Machine.take_answer.Goals as goal

pub last_value-requires : goal.last_value-requires
last_value-requires g c =
    let self = c.args.self.now in
    let s : State = seen.state_of g.H.Functions.host g.P.ContextProvider.context g.L.Pointer.held (text_of g.N.Pointer.held) g.M.Meter.metered self in
    let w : World = here g.H.Functions.host g.P.ContextProvider.context self.world.now in
    let B : List (List Op) = blocks_of g.L.Pointer.held (text_of g.N.Pointer.held) self.code.now in
    let was : MeterView = g.M.Meter.metered self.meter in
    let r = subst (λ q. MayAnswer g.H.Functions.host g.P.ContextProvider.context g.L.Pointer.held (text_of g.N.Pointer.held) g.M.Meter.metered q self) c.in-Not.is c.requires in
    let on : was.stopped ≡ None = r.0.0 in
    let ready : IsReady (is_limited was.room) B s = r.0.1 in
    let ends : s.at ≡ 0 = r.1 in
    omega (arith, end_one (is_limited was.room) B s ends ready)

pub returns-in_err-answer-in-Not-clause-folds : goal.returns-in_err-answer-in-Not-clause-folds
returns-in_err-answer-in-Not-clause-folds g c =
    let self = c.args.self.now in
    let s : State = seen.state_of g.H.Functions.host g.P.ContextProvider.context g.L.Pointer.held (text_of g.N.Pointer.held) g.M.Meter.metered self in
    let w : World = here g.H.Functions.host g.P.ContextProvider.context self.world.now in
    let B : List (List Op) = blocks_of g.L.Pointer.held (text_of g.N.Pointer.held) self.code.now in
    let was : MeterView = g.M.Meter.metered self.meter in
    let r = subst (λ q. MayAnswer g.H.Functions.host g.P.ContextProvider.context g.L.Pointer.held (text_of g.N.Pointer.held) g.M.Meter.metered q self) c.in-Not.is c.requires in
    let on : was.stopped ≡ None = r.0.0 in
    let ready : IsReady (is_limited was.room) B s = r.0.1 in
    let ends : s.at ≡ 0 = r.1 in
    let before : Allowed = ComesAfter g.H.Functions.host g.P.ContextProvider.context g.L.Pointer.held (text_of g.N.Pointer.held) g.M.Meter.metered c.args.quickly self in
    let e = c.in_err-answer-in-Not.field-0.0 in
    halt_folds g.H.Functions.host g.P.ContextProvider.context g.L.Pointer.held (text_of g.N.Pointer.held) g.M.Meter.metered before (record self { stack = c.last_value.new.self; frames = with_item self.frames (vec_len self.frames - 1) c.in-Some.frame.now }) g.M.RunMeter.halt _ c.from_residual.result c.from_residual.ensures.1 (halt.Refused e) (g.met.M.RunMeter.refuses e)
    (on, λ other. absurd (other (ap error_kind c.in_err-answer-in-Not.ensures.refusal)))

pub unbind-item-requires-clause-bound : goal.unbind-item-requires-clause-bound
unbind-item-requires-clause-bound g c =
    let self = c.args.self.now in
    let s : State = seen.state_of g.H.Functions.host g.P.ContextProvider.context g.L.Pointer.held (text_of g.N.Pointer.held) g.M.Meter.metered self in
    let w : World = here g.H.Functions.host g.P.ContextProvider.context self.world.now in
    let B : List (List Op) = blocks_of g.L.Pointer.held (text_of g.N.Pointer.held) self.code.now in
    let was : MeterView = g.M.Meter.metered self.meter in
    let r = subst (λ q. MayAnswer g.H.Functions.host g.P.ContextProvider.context g.L.Pointer.held (text_of g.N.Pointer.held) g.M.Meter.metered q self) c.in-Not.is c.requires in
    let on : was.stopped ≡ None = r.0.0 in
    let ready : IsReady (is_limited was.room) B s = r.0.1 in
    let ends : s.at ≡ 0 = r.1 in
    let frame = c.in-Some.frame.now in
    let f : Waiting = waiting_of frame in
    let fs : List Waiting = reverse (map waiting_of (front_of self.frames.items)) in
    let some : 0 < vec_len self.frames = c.in-Some.ensures.variant.0 refl in
    let waiting : s.frames ≡ f ∷ fs = frames_top self.frames frame some c.in-Some.ensures.value in
    (all_wait w B s f fs was waiting ready ends).0.item

pub unbind-item-requires-clause-within : goal.unbind-item-requires-clause-within
unbind-item-requires-clause-within g c =
    let self = c.args.self.now in
    let s : State = seen.state_of g.H.Functions.host g.P.ContextProvider.context g.L.Pointer.held (text_of g.N.Pointer.held) g.M.Meter.metered self in
    let w : World = here g.H.Functions.host g.P.ContextProvider.context self.world.now in
    let B : List (List Op) = blocks_of g.L.Pointer.held (text_of g.N.Pointer.held) self.code.now in
    let was : MeterView = g.M.Meter.metered self.meter in
    let r = subst (λ q. MayAnswer g.H.Functions.host g.P.ContextProvider.context g.L.Pointer.held (text_of g.N.Pointer.held) g.M.Meter.metered q self) c.in-Not.is c.requires in
    let on : was.stopped ≡ None = r.0.0 in
    let ready : IsReady (is_limited was.room) B s = r.0.1 in
    let ends : s.at ≡ 0 = r.1 in
    let frame = c.in-Some.frame.now in
    let f : Waiting = waiting_of frame in
    let fs : List Waiting = reverse (map waiting_of (front_of self.frames.items)) in
    let some : 0 < vec_len self.frames = c.in-Some.ensures.variant.0 refl in
    let waiting : s.frames ≡ f ∷ fs = frames_top self.frames frame some c.in-Some.ensures.value in
    (all_wait w B s f fs was waiting ready ends).0.stands.bound

pub returns-in_err-keep_reply-in-Not-clause-folds : goal.returns-in_err-keep_reply-in-Not-clause-folds
returns-in_err-keep_reply-in-Not-clause-folds g c =
    let self = c.args.self.now in
    let s : State = seen.state_of g.H.Functions.host g.P.ContextProvider.context g.L.Pointer.held (text_of g.N.Pointer.held) g.M.Meter.metered self in
    let w : World = here g.H.Functions.host g.P.ContextProvider.context self.world.now in
    let B : List (List Op) = blocks_of g.L.Pointer.held (text_of g.N.Pointer.held) self.code.now in
    let was : MeterView = g.M.Meter.metered self.meter in
    let r = subst (λ q. MayAnswer g.H.Functions.host g.P.ContextProvider.context g.L.Pointer.held (text_of g.N.Pointer.held) g.M.Meter.metered q self) c.in-Not.is c.requires in
    let on : was.stopped ≡ None = r.0.0 in
    let ready : IsReady (is_limited was.room) B s = r.0.1 in
    let ends : s.at ≡ 0 = r.1 in
    let frame = c.in-Some.frame.now in
    let f : Waiting = waiting_of frame in
    let fs : List Waiting = reverse (map waiting_of (front_of self.frames.items)) in
    let some : 0 < vec_len self.frames = c.in-Some.ensures.variant.0 refl in
    let waiting : s.frames ≡ f ∷ fs = frames_top self.frames frame some c.in-Some.ensures.value in
    let x : Value = c.unbind-item.result in
    let v : Value = c.in_ok-answer-in-Not.answer in
    let is : MeterView = g.M.Meter.metered c.keep_reply.new.meter in
    let said : v ≡ cell_value s.memory.kept (top_of s.stack) = c.in_ok-answer-in-Not.ensures.value ∙ ap (λ k. cell_value k (top_of s.stack)) c.kept_values.ensures.places in
    let before : Allowed = ComesAfter g.H.Functions.host g.P.ContextProvider.context g.L.Pointer.held (text_of g.N.Pointer.held) g.M.Meter.metered c.args.quickly self in
    let limit = g.M.Meter.limit c.in_err-keep_reply-in-Not.field-0.0 in
    halt_folds g.H.Functions.host g.P.ContextProvider.context g.L.Pointer.held (text_of g.N.Pointer.held) g.M.Meter.metered before (record self { meter = c.keep_reply.new.meter; memory = c.unbind-item.new.self; stack = c.last_value.new.self; frames = with_item self.frames (vec_len self.frames - 1) frame }) g.M.RunMeter.halt _ c.from_residual-in_err-keep_reply-in-Not.result c.from_residual-in_err-keep_reply-in-Not.ensures.1
    (halt.Limit limit) (g.met.M.RunMeter.passes c.in_err-keep_reply-in-Not.field-0.0 _ c.in_err-keep_reply-in-Not.ensures.0)
    (c.in_err-keep_reply-in-Not.ensures.0, subst (λ q. ComesAfter g.H.Functions.host g.P.ContextProvider.context g.L.Pointer.held (text_of g.N.Pointer.held) g.M.Meter.metered q self (stops limit)) (sym c.in-Not.is) (result_limited w B s f fs was waiting ready ends x v c.unbind-item.ensures.item said limit c.in_err-keep_reply-in-Not.ensures.1))

pub returns-in_err-answer-in-Not-2-clause-folds : goal.returns-in_err-answer-in-Not-2-clause-folds
returns-in_err-answer-in-Not-2-clause-folds g c =
    let self = c.args.self.now in
    let s : State = seen.state_of g.H.Functions.host g.P.ContextProvider.context g.L.Pointer.held (text_of g.N.Pointer.held) g.M.Meter.metered self in
    let w : World = here g.H.Functions.host g.P.ContextProvider.context self.world.now in
    let B : List (List Op) = blocks_of g.L.Pointer.held (text_of g.N.Pointer.held) self.code.now in
    let was : MeterView = g.M.Meter.metered self.meter in
    let r = subst (λ q. MayAnswer g.H.Functions.host g.P.ContextProvider.context g.L.Pointer.held (text_of g.N.Pointer.held) g.M.Meter.metered q self) c.in-Not.is c.requires in
    let on : was.stopped ≡ None = r.0.0 in
    let ready : IsReady (is_limited was.room) B s = r.0.1 in
    let ends : s.at ≡ 0 = r.1 in
    let frame = c.in-Some.frame.now in
    let f : Waiting = waiting_of frame in
    let fs : List Waiting = reverse (map waiting_of (front_of self.frames.items)) in
    let some : 0 < vec_len self.frames = c.in-Some.ensures.variant.0 refl in
    let waiting : s.frames ≡ f ∷ fs = frames_top self.frames frame some c.in-Some.ensures.value in
    let x : Value = c.unbind-item.result in
    let v : Value = c.in_ok-answer-in-Not.answer in
    let is : MeterView = g.M.Meter.metered c.keep_reply.new.meter in
    let said : v ≡ cell_value s.memory.kept (top_of s.stack) = c.in_ok-answer-in-Not.ensures.value ∙ ap (λ k. cell_value k (top_of s.stack)) c.kept_values.ensures.places in
    let before : Allowed = ComesAfter g.H.Functions.host g.P.ContextProvider.context g.L.Pointer.held (text_of g.N.Pointer.held) g.M.Meter.metered c.args.quickly self in
    let e = c.in_err-answer-in-Not-2.field-0.0 in
    let refused = c.in_err-answer-in-Not-2.ensures.refused in
    halt_folds g.H.Functions.host g.P.ContextProvider.context g.L.Pointer.held (text_of g.N.Pointer.held) g.M.Meter.metered before (record self { meter = c.keep_reply.new.meter; memory = c.unbind-item.new.self; stack = c.last_value.new.self; frames = with_item self.frames (vec_len self.frames - 1) (record frame { run = c.answer.new.self }) })
    g.M.RunMeter.halt _ c.from_residual-in_err-answer-in-Not-2.result c.from_residual-in_err-answer-in-Not-2.ensures.1 (halt.Refused e) (g.met.M.RunMeter.refuses e) (
      c.in_ok-keep_reply-in-Not.ensures.0 ∙ on,
      λ other.
          let waits = all_wait w B s f fs was waiting ready ends in
          subst (λ j. before (refuses j)) (sym (refused other waits.0.fold waits.0.replies waits.0.out).1) (
          subst (λ q. ComesAfter g.H.Functions.host g.P.ContextProvider.context g.L.Pointer.held (text_of g.N.Pointer.held) g.M.Meter.metered q self (refuses evaluation)) (sym c.in-Not.is) (
          result_denied w B s f fs was waiting ready ends x v c.unbind-item.ensures.item said is.room c.in_ok-keep_reply-in-Not.ensures.1 (λ t rs out. (refused other t rs out).0))),
    )

pub returns-in_err-answer-in-Not-2-clause-pattern : goal.returns-in_err-answer-in-Not-2-clause-pattern
returns-in_err-answer-in-Not-2-clause-pattern g c =
    let self = c.args.self.now in
    let s : State = seen.state_of g.H.Functions.host g.P.ContextProvider.context g.L.Pointer.held (text_of g.N.Pointer.held) g.M.Meter.metered self in
    let w : World = here g.H.Functions.host g.P.ContextProvider.context self.world.now in
    let B : List (List Op) = blocks_of g.L.Pointer.held (text_of g.N.Pointer.held) self.code.now in
    let was : MeterView = g.M.Meter.metered self.meter in
    let r = subst (λ q. MayAnswer g.H.Functions.host g.P.ContextProvider.context g.L.Pointer.held (text_of g.N.Pointer.held) g.M.Meter.metered q self) c.in-Not.is c.requires in
    let on : was.stopped ≡ None = r.0.0 in
    let ready : IsReady (is_limited was.room) B s = r.0.1 in
    let ends : s.at ≡ 0 = r.1 in
    let frame = c.in-Some.frame.now in
    let f : Waiting = waiting_of frame in
    let fs : List Waiting = reverse (map waiting_of (front_of self.frames.items)) in
    let some : 0 < vec_len self.frames = c.in-Some.ensures.variant.0 refl in
    let waiting : s.frames ≡ f ∷ fs = frames_top self.frames frame some c.in-Some.ensures.value in
    let e = c.in_err-answer-in-Not-2.field-0.0 in
    let refused = c.in_err-answer-in-Not-2.ensures.refused in
    let waits = all_wait w B s f fs was waiting ready ends in
    error_no_pattern g.M.RunMeter.halt _ c.from_residual-in_err-answer-in-Not-2.result c.from_residual-in_err-answer-in-Not-2.ensures.1 e (g.met.M.RunMeter.refuses e)
    (evaluation_not e (λ other. (refused other waits.0.fold waits.0.replies waits.0.out).1))

pub returns-in_ok-answer-in-Not-2-clause-folds : goal.returns-in_ok-answer-in-Not-2-clause-folds
returns-in_ok-answer-in-Not-2-clause-folds g c =
    let self = c.args.self.now in
    let s : State = seen.state_of g.H.Functions.host g.P.ContextProvider.context g.L.Pointer.held (text_of g.N.Pointer.held) g.M.Meter.metered self in
    let w : World = here g.H.Functions.host g.P.ContextProvider.context self.world.now in
    let B : List (List Op) = blocks_of g.L.Pointer.held (text_of g.N.Pointer.held) self.code.now in
    let was : MeterView = g.M.Meter.metered self.meter in
    let r = subst (λ q. MayAnswer g.H.Functions.host g.P.ContextProvider.context g.L.Pointer.held (text_of g.N.Pointer.held) g.M.Meter.metered q self) c.in-Not.is c.requires in
    let on : was.stopped ≡ None = r.0.0 in
    let ready : IsReady (is_limited was.room) B s = r.0.1 in
    let ends : s.at ≡ 0 = r.1 in
    let frame = c.in-Some.frame.now in
    let f : Waiting = waiting_of frame in
    let fs : List Waiting = reverse (map waiting_of (front_of self.frames.items)) in
    let some : 0 < vec_len self.frames = c.in-Some.ensures.variant.0 refl in
    let waiting : s.frames ≡ f ∷ fs = frames_top self.frames frame some c.in-Some.ensures.value in
    let x : Value = c.unbind-item.result in
    let v : Value = c.in_ok-answer-in-Not.answer in
    let is : MeterView = g.M.Meter.metered c.keep_reply.new.meter in
    let said : v ≡ cell_value s.memory.kept (top_of s.stack) = c.in_ok-answer-in-Not.ensures.value ∙ ap (λ k. cell_value k (top_of s.stack)) c.kept_values.ensures.places in
    let run = c.answer.new.self in
    let put = frames_put self.frames frame (record frame { run = run }) some ∙ ap (λ w. w ∷ fs) (frame_running frame run c.answer.ensures.lent) in
    let gs : List Waiting = reverse (map waiting_of (with_item self.frames (vec_len self.frames - 1) (record frame { run = run })).items) in (
      (
        c.in_ok-keep_reply-in-Not.ensures.0 ∙ on,
        result_folds w B s f fs was waiting ready ends x v c.unbind-item.ensures.item said is.room c.in_ok-keep_reply-in-Not.ensures.1 run c.in_ok-answer-in-Not-2.ensures.value
            c.last_value.new.self c.unbind-item.new.self gs c.unbind-item.ensures.kept c.unbind-item.ensures.slots put,
      ),
      λ e p. subst (λ q. ComesAfter g.H.Functions.host g.P.ContextProvider.context g.L.Pointer.held (text_of g.N.Pointer.held) g.M.Meter.metered q self e) (sym c.in-Not.is) (
          result_comes w B s f fs was waiting ready ends x v c.unbind-item.ensures.item said is.room c.in_ok-keep_reply-in-Not.ensures.1 run c.in_ok-answer-in-Not-2.ensures.value
          c.last_value.new.self c.unbind-item.new.self gs c.unbind-item.ensures.kept c.unbind-item.ensures.slots put e p),
    )

pub cut-requires : goal.cut-requires
cut-requires g c =
    let self = c.args.self.now in
    let s : State = seen.state_of g.H.Functions.host g.P.ContextProvider.context g.L.Pointer.held (text_of g.N.Pointer.held) g.M.Meter.metered self in
    let w : World = here g.H.Functions.host g.P.ContextProvider.context self.world.now in
    let B : List (List Op) = blocks_of g.L.Pointer.held (text_of g.N.Pointer.held) self.code.now in
    let was : MeterView = g.M.Meter.metered self.meter in
    let r : IsAnswered g.H.Functions.host g.P.ContextProvider.context g.L.Pointer.held (text_of g.N.Pointer.held) g.M.Meter.metered self = subst (λ q. MayAnswer g.H.Functions.host g.P.ContextProvider.context g.L.Pointer.held (text_of g.N.Pointer.held) g.M.Meter.metered q self) c.in-Answered.is c.requires in
    let frame = c.in-Some-last.frame.now in
    let f : Waiting = waiting_of frame in
    let fs : List Waiting = reverse (map waiting_of (front_of self.frames.items)) in
    let waiting : s.frames ≡ f ∷ fs = frames_last self.frames c.deref.result.now frame c.deref.ensures.value c.in-Some-last.ensures.item.3.0 c.in-Some-last.ensures.item.1 in
    let waits : AllWaitButTop (is_limited was.room) B self.number (f ∷ fs) self.memory = subst (λ gs. AllWaitButTop (is_limited was.room) B self.number gs self.memory) waiting r.waits in
    waits.0.bound

pub returns-in-Some-last-clause-folds : goal.returns-in-Some-last-clause-folds
returns-in-Some-last-clause-folds g c =
    let self = c.args.self.now in
    let s : State = seen.state_of g.H.Functions.host g.P.ContextProvider.context g.L.Pointer.held (text_of g.N.Pointer.held) g.M.Meter.metered self in
    let w : World = here g.H.Functions.host g.P.ContextProvider.context self.world.now in
    let B : List (List Op) = blocks_of g.L.Pointer.held (text_of g.N.Pointer.held) self.code.now in
    let was : MeterView = g.M.Meter.metered self.meter in
    let r : IsAnswered g.H.Functions.host g.P.ContextProvider.context g.L.Pointer.held (text_of g.N.Pointer.held) g.M.Meter.metered self = subst (λ q. MayAnswer g.H.Functions.host g.P.ContextProvider.context g.L.Pointer.held (text_of g.N.Pointer.held) g.M.Meter.metered q self) c.in-Answered.is c.requires in
    let frame = c.in-Some-last.frame.now in
    let f : Waiting = waiting_of frame in
    let fs : List Waiting = reverse (map waiting_of (front_of self.frames.items)) in
    let waiting : s.frames ≡ f ∷ fs = frames_last self.frames c.deref.result.now frame c.deref.ensures.value c.in-Some-last.ensures.item.3.0 c.in-Some-last.ensures.item.1 in
    let waits : AllWaitButTop (is_limited was.room) B self.number (f ∷ fs) self.memory = subst (λ gs. AllWaitButTop (is_limited was.room) B self.number gs self.memory) waiting r.waits in (
      (r.goes_on, cut_folds w B s f fs waiting c.cut.new.self c.cut.ensures.kept c.cut.ensures.slots (is_limited was.room) r.fold r.replies r.given r.keeps r.waits),
      λ e p. subst (λ q. ComesAfter g.H.Functions.host g.P.ContextProvider.context g.L.Pointer.held (text_of g.N.Pointer.held) g.M.Meter.metered q self e) (sym c.in-Answered.is) (cut_comes w B s f fs waiting c.cut.new.self c.cut.ensures.kept c.cut.ensures.slots was.room e p),
    )
