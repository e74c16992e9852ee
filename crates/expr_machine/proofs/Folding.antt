-- What comes of a result at the end of a block, and of the next item.
use Rattle.std.proofs.Common.{◌≡◌, ℕ, ◌+◌, ◌-◌, ◌<◌, ◌≤◌, Bool, IsTrue, true, false, List, [], ◌∷◌, ◌++◌, Some, None, Result, Ok, Err, Vec, refl, sym, ap, ◌∙◌, subst, length, map, reverse, take, arith}
use Rattle.std.proofs.lemmas.List.{length-take-le}
use Rattle.std.specs.Prelude.{slice_index_or, unwrap_or, if◌then◌else◌}
use Rattle.std.specs.Result.{IsErrAnd}
use Rattle.std.specs.Vec.{with_item}
use Rattle.expr_code.specs.CallBinds.{bound_count, bound_helds}
use Rattle.expr_code.specs.Instructions.{Op}
use Rattle.expr_context.specs.Context.{ContextView}
use Rattle.expr_costs.specs.Retention.{RetainsAs, is_last, retained_by}
use Rattle.expr_error.specs.ErrorKind.{ErrorKind, evaluation}
use Rattle.expr_frames.specs.Machines.{Allowed, Comes, ComesFoldingOn, ComesReplied, FrameAsks, FrameFinishes, FrameGoesOn, Halts, Passes}
use Rattle.expr_frames.specs.Ready.{AllWait, AllWaitButTop, IsReady, ops_of}
use Rattle.expr_frames.specs.Runs.{State, Waiting, cut, item_of}
use Rattle.expr_frames.specs.declared.halt.Awaited.TheVariants.{Kept}
use Rattle.expr_frames.specs.declared.halt.Halt.{Halt}
use Rattle.expr_frames.proofs.Doing.{Done, by_top, cut_stays, done_from, folding_from, from_top, next_done, running_waits}
use Rattle.expr_frames.proofs.Binding.{next_stops}
use Rattle.expr_frames.proofs.Frames.{Keeps, answer_denied, answer_limited, answer_taken, asking, begun_at, cut_twice, end_one, finish_comes, finish_given, fold_over, keeps_by, keeps_none, next_bound, running, wait_but_top}
use Rattle.expr_frames.proofs.Limiting.{same_keeps, same_size}
use Rattle.expr_frames.proofs.Passing.{passes_from, passes_refusal}
use Rattle.expr_frames.proofs.Retaining.{retains_by, retains_same}
use Rattle.expr_frames.proofs.Walking.{safe_block}
use Rattle.expr_limits.specs.Counting.{Ending, EndingThen, EndsWithAnswer, KeepsAll, ThenIfKept, gives, refuses, stops}
use Rattle.expr_limits.specs.MeterView.{MeterView}
use Rattle.expr_limits.specs.Rooms.{Room, is_limited, limited, rooms, size_left, unlimited, with_size}
use Rattle.expr_limits.specs.declared.limit.Limit.{Limit}
use Rattle.expr_machine.specs.Folding.{EndsFolding, EndsForTop, Folds, FoldsAt, FoldsOnTop, FrameEnds, back_to}
use Rattle.expr_machine.specs.Seen as seen
use Rattle.expr_machine.specs.Seen.{OnTop, TellsKeeps, told, waiting_of}
use Rattle.expr_machine.specs.declared.frame.Frame.{Frame}
use Rattle.expr_machine.specs.declared.machine.Machine.{Machine}
use Rattle.expr_machine.proofs.Answered.{front_of, last_frame, last_put, turned}
use Rattle.expr_machine.proofs.Told.{told_as}
use Rattle.expr_meaning.specs.Host.{Host}
use Rattle.expr_meaning.specs.World.{World}
use Rattle.expr_predicates.specs.Accumulators.{Awaits, RunRepresents, pending_args, remaining_items}
use Rattle.expr_predicates.specs.Folds.{Fold, FoldOutcome, ItemAnswer, refuses_answer}
use Rattle.expr_predicates.specs.Runs.{next_args}
use Rattle.expr_predicates.specs.declared.run.PredicateRun.{PredicateRun}
use Rattle.expr_stack.specs.Bindings.{BindsItem}
use Rattle.expr_stack.specs.Cells.{cell_value, top_of}
use Rattle.expr_stack.specs.Memories.{MemoryView, slot_value}
use Rattle.expr_stack.specs.declared.cell.Cell.{Cell}
use Rattle.expr_value.specs.declared.value.Value as value
use Rattle.expr_value.specs.declared.value.Value.{Value}

-- a memory, by its parts
memory_is : (n : MemoryView) (kept : List Value) (slots : List Cell) → n.kept ≡ kept → n.slots ≡ slots → n ≡ record { kept = kept; slots = slots }
memory_is n kept slots a b =
    ap (λ x. let c : MemoryView = record { kept = x; slots = n.slots } in c) a
    ∙ ap (λ x. let c : MemoryView = record { kept = kept; slots = x } in c) b

-- a stack of one value
one_top : (st : List Cell) → length st ≡ 1 → st ≡ top_of st ∷ []
one_top [] one = absurd (omega arith)
one_top (x ∷ []) one = refl
one_top (x ∷ y ∷ ys) one = absurd (let e : length (x ∷ y ∷ ys) ≡ 1 = one in omega arith)

-- where nothing is counted, nothing is kept
free_after : (v : Value) (vs : List Value) (x r : Result Room Limit) → x ≡ Ok unlimited → ThenIfKept x (λ u. KeepsAll rooms vs u r) r → ((k : KeepsAll rooms vs unlimited r) → r ≡ Ok unlimited) → r ≡ Ok unlimited
free_after v vs x r is k rest = rest (subst (λ y. ThenIfKept y (λ u. KeepsAll rooms vs u r) r) is k)

free_all : (vs : List Value) (r : Result Room Limit) → KeepsAll rooms vs unlimited r → r ≡ Ok unlimited
free_all [] r k = k
free_all (v ∷ vs) r (x, q, k) = free_after v vs x r q k (free_all vs r)

module _ (world : World) (blocks : List (List Op)) where
  -- the innermost frame asks no more: its caller is given the value of its call
  pub ending_given : (s : State) (f : Waiting) (fs : List Waiting) (now : Room) (v : Value) → s.frames ≡ f ∷ fs → cut f s.memory ≡ s.memory → ((t : Fold) (rs : List ItemAnswer) → RunRepresents f.run t rs → FoldOutcome t rs (Ok v))
      → (e : Ending Room) → ComesReplied world blocks (back_to f fs s) (Kept f.called) (Ok v) now e → EndsFolding world blocks s now e
  ending_given s f fs now v waiting cuts over e p =
      by_top (λ f fs e. Passes world blocks s.begun f.number fs (cut f s.memory) (FrameEnds world blocks f (cut f s.memory) now) e) s.frames f fs waiting e (
      passes_from world blocks s.begun f.number fs (cut f s.memory) (FrameFinishes world blocks f (cut f s.memory) v now) (FrameEnds world blocks f (cut f s.memory) now)
      (λ x q t rs stands. (gives v now, (Ok v, over t rs stands, refl), q)) e
      (finish_comes world blocks s f fs s.memory s.memory (sym cuts) v now e p)
      )

  -- or its error
  pub ending_denied : (s : State) (f : Waiting) (fs : List Waiting) (now : Room) (k : ErrorKind) → s.frames ≡ f ∷ fs → ((t : Fold) (rs : List ItemAnswer) → RunRepresents f.run t rs → FoldOutcome t rs (Err k)) → EndsFolding world blocks s now (refuses k)
  ending_denied s f fs now k waiting over =
      let r : Ending Room = refuses k in
      by_top (λ f fs e. Passes world blocks s.begun f.number fs (cut f s.memory) (FrameEnds world blocks f (cut f s.memory) now) e) s.frames f fs waiting (refuses k) (
      passes_refusal world blocks s.begun f.number fs (cut f s.memory) (FrameEnds world blocks f (cut f s.memory) now) k (λ t rs stands. (r, (Err k, over t rs stands, refl), refl))
      )

  -- a frame that asks no more goes on so
  pub folding_ends : (s : State) (f : Waiting) (fs gs : List Waiting) (run : PredicateRun) (now : Room) → s.frames ≡ f ∷ fs → gs ≡ running run f ∷ fs
      → ((t : Fold) (rs : List ItemAnswer) → RunRepresents f.run t rs → RunRepresents run t rs) → ((t : Fold) (rs : List ItemAnswer) → RunRepresents f.run t rs → None ≡ next_args t rs (remaining_items f.run))
      → (e : Ending Room) → EndsFolding world blocks (record s { frames = gs }) now e → ComesFoldingOn world blocks s now e
  folding_ends s f fs gs run now waiting put stays none e p =
      by_top (λ f fs e. Passes world blocks s.begun f.number fs (cut f s.memory) (FrameGoesOn world blocks f s.number (cut f s.memory) now) e) s.frames f fs waiting e (
      passes_from world blocks s.begun f.number fs (cut f s.memory) (FrameEnds world blocks (running run f) (cut f s.memory) now) (FrameGoesOn world blocks f s.number (cut f s.memory) now)
      (λ x q t rs stands.
      let r : EndingThen (EndsWithAnswer (FoldOutcome t rs) now) (FrameFinishes world blocks (running run f) (cut f s.memory)) x = q t rs (stays t rs stands) in
      (r.0, fold_over t f.first (FrameAsks world blocks f s.number (cut f s.memory)) rs now (remaining_items f.run) (none t rs stands) r.0 r.1, r.2))
      e
      (from_top (λ f fs e. Passes world blocks s.begun f.number fs (cut f s.memory) (FrameEnds world blocks f (cut f s.memory) now) e) gs (running run f) fs put e p)
      )

  -- what is counted of a reply is what its call keeps
  module _ (f : Waiting) (asked : ℕ) (m : MemoryView) (x v : Value) where
    pub keeps_counted : (now : Room) (r : Result Room Limit) → (IsTrue (is_limited now) → (t : Fold) (rs : List ItemAnswer) → Awaits f.run t rs → RetainsAs f.keeps t)
        → KeepsAll rooms (retained_by f.keeps (x, v)) (with_size (if is_last f.keeps then f.first else f.mark) now) r → Keeps world blocks f asked m x v now r
    keeps_counted unlimited r so k = subst (λ y. Keeps world blocks f asked m x v unlimited y) (sym (free_all (retained_by f.keeps (x, v)) r k)) (keeps_none world blocks f asked m x v unlimited refl)
    keeps_counted (limited a b c) r so k = keeps_by world blocks f asked m x v (limited a b c) r (so refl) k

  -- a block has come to its end, and its value is that of the item that its frame asked about
  module _ (s : State) (f : Waiting) (fs : List Waiting) (was : MeterView) (waiting : s.frames ≡ f ∷ fs) (ready : IsReady (is_limited was.room) blocks s) (ends : s.at ≡ 0) where
    pub all_wait : AllWait (is_limited was.room) blocks s.number (f ∷ fs) s.memory
    all_wait = subst (λ gs. AllWait (is_limited was.room) blocks s.number gs s.memory) waiting ready.waits

    pub one_value : s.stack ≡ top_of s.stack ∷ []
    one_value = one_top s.stack (end_one (is_limited was.room) blocks s ends ready)

    abbrev Item : Value
    Item = item_of f s.memory

    abbrev Result_of : Value
    Result_of = cell_value s.memory.kept (top_of s.stack)

    module _ (x v : Value) (item : slot_value s.memory f.slot ≡ Some x) (said : v ≡ Result_of) where
      abbrev Counted : Result Room Limit → Type 0
      Counted r = KeepsAll rooms (retained_by f.keeps (x, v)) (with_size (if is_last f.keeps then f.first else f.mark) was.room) r

      item_found : x ≡ Item
      item_found = sym (ap (λ o. unwrap_or o value.Nil) item)

      kept_of : (r : Result Room Limit) → Counted r → Keeps world blocks f s.number (cut f s.memory) Item Result_of was.room r
      kept_of r k =
          keeps_counted f s.number (cut f s.memory) Item Result_of was.room r all_wait.0.keeps (
          subst (λ y. KeepsAll rooms (retained_by f.keeps (y, Result_of)) (with_size (if is_last f.keeps then f.first else f.mark) was.room) r) item_found (
          subst (λ y. KeepsAll rooms (retained_by f.keeps (x, y)) (with_size (if is_last f.keeps then f.first else f.mark) was.room) r) said k
          )
          )

      -- what is kept of it passes a limit
      pub result_limited : (limit : Limit) → Counted (Err limit) → Comes world blocks s was.room (stops limit)
      result_limited limit k = answer_limited world blocks s (top_of s.stack) f fs was.room ends one_value waiting limit (kept_of (Err limit) k)

      module _ (after : Room) (counts : Counted (Ok after)) where
        -- it is refused
        pub result_denied : ((t : Fold) (rs : List ItemAnswer) → Awaits f.run t rs → refuses_answer t v ≡ true) → Comes world blocks s was.room (refuses evaluation)
        result_denied denies =
            answer_denied world blocks s (top_of s.stack) f fs was.room ends one_value waiting after (kept_of (Ok after) counts) (λ t rs out. subst (λ y. refuses_answer t y ≡ true) said (denies t rs out))

        -- the frame takes it
        module _ (run : PredicateRun) (takes : (t : Fold) (rs : List ItemAnswer) → Awaits f.run t rs → (refuses_answer t v ≡ false) × (remaining_items run ≡ remaining_items f.run) × RunRepresents run t (rs ++ (x, v) ∷ []))
            (st : List Cell) (n : MemoryView) (gs : List Waiting) (kept : n.kept ≡ take f.places s.memory.kept) (slots : n.slots ≡ take f.slot s.memory.slots) (put : gs ≡ running run f ∷ fs) where
          abbrev pub After : State
          After = record s { stack = st; memory = n; frames = gs }

          cuts : n ≡ cut f s.memory
          cuts = memory_is n (take f.places s.memory.kept) (take f.slot s.memory.slots) kept slots

          same : is_limited after ≡ is_limited was.room
          same =
              same_keeps (retained_by f.keeps (x, v)) (with_size (if is_last f.keeps then f.first else f.mark) was.room) after counts ∙ same_size (if is_last f.keeps then f.first else f.mark) was.room

          given : RunRepresents run all_wait.0.fold (all_wait.0.replies ++ (x, v) ∷ [])
          given = (takes all_wait.0.fold all_wait.0.replies all_wait.0.out).2

          keeps_still : IsTrue (is_limited after) → (t : Fold) (rs : List ItemAnswer) → RunRepresents run t rs → RetainsAs f.keeps t
          keeps_still h t rs stands =
              retains_by f.keeps run all_wait.0.fold t (all_wait.0.replies ++ (x, v) ∷ []) rs given stands (all_wait.0.keeps (subst (λ b. IsTrue b) same h) all_wait.0.fold all_wait.0.replies all_wait.0.out)

          pub result_folds : FoldsOnTop (is_limited after) blocks After gs
          result_folds =
              subst (FoldsOnTop (is_limited after) blocks After) (sym put) (
              record {
                fold = all_wait.0.fold;
                replies = all_wait.0.replies ++ (x, v) ∷ [];
                given = given;
                keeps = keeps_still;
                was = s.memory;
                cuts = cuts;
                waits = subst (λ b. AllWaitButTop b blocks s.number (running run f ∷ fs) s.memory) (sym same)
                    (running_waits (is_limited was.room) blocks s.number f fs s.memory run (wait_but_top (is_limited was.room) blocks s.number f fs s.memory all_wait));
              }
              )

          takes_it : (t : Fold) (rs : List ItemAnswer) → Awaits f.run t rs → (refuses_answer t Result_of ≡ false) × (remaining_items run ≡ remaining_items f.run) × RunRepresents run t (rs ++ (Item, Result_of) ∷ [])
          takes_it t rs out =
              let g = takes t rs out in (
                subst (λ y. refuses_answer t y ≡ false) said g.0,
                g.1,
                subst (λ y. RunRepresents run t (rs ++ (y, Result_of) ∷ [])) item_found (subst (λ y. RunRepresents run t (rs ++ (x, y) ∷ [])) said g.2),
              )

          pub result_comes : (e : Ending Room) → ComesFoldingOn world blocks After after e → Comes world blocks s was.room e
          result_comes e p =
              answer_taken world blocks s (top_of s.stack) f fs was.room ends one_value waiting run after (kept_of (Ok after) counts) takes_it e
              (folding_from world blocks s f fs gs run n put cuts after e p)

  -- the frame has its answer, and the memory is cut
  module _ (s : State) (f : Waiting) (fs : List Waiting) (waiting : s.frames ≡ f ∷ fs) (n : MemoryView) (kept : n.kept ≡ take f.places s.memory.kept) (slots : n.slots ≡ take f.slot s.memory.slots) where
    cut_is : n ≡ cut f s.memory
    cut_is = memory_is n (take f.places s.memory.kept) (take f.slot s.memory.slots) kept slots

    pub cut_folds : (counted : Bool) (fold : Fold) (replies : List ItemAnswer) → OnTop (λ f. RunRepresents f.run fold replies) s.frames → OnTop (TellsKeeps counted) s.frames → AllWaitButTop counted blocks s.number s.frames s.memory
        → FoldsOnTop counted blocks (record s { memory = n }) s.frames
    cut_folds counted fold replies given keeps waits =
        subst (FoldsOnTop counted blocks (record s { memory = n })) (sym waiting) (
        record {
          fold = fold;
          replies = replies;
          given = subst (OnTop (λ f. RunRepresents f.run fold replies)) waiting given;
          keeps = subst (OnTop (TellsKeeps counted)) waiting keeps;
          was = s.memory;
          cuts = cut_is;
          waits = subst (λ gs. AllWaitButTop counted blocks s.number gs s.memory) waiting waits;
        }
        )

    pub cut_comes : (now : Room) (e : Ending Room) → ComesFoldingOn world blocks (record s { memory = n }) now e → ComesFoldingOn world blocks s now e
    cut_comes now e p =
        by_top (λ f fs e. Passes world blocks s.begun f.number fs (cut f s.memory) (FrameGoesOn world blocks f s.number (cut f s.memory) now) e) s.frames f fs waiting e (
        subst (λ c. Passes world blocks s.begun f.number fs c (FrameGoesOn world blocks f s.number c now) e) (ap (cut f) cut_is ∙ cut_twice f s.memory) (
        from_top (λ f fs e. Passes world blocks s.begun f.number fs (cut f n) (FrameGoesOn world blocks f s.number (cut f n) now) e) s.frames f fs waiting e p
        )
        )

  -- a frame goes on with its next item
  module _ (s : State) (f : Waiting) (fs : List Waiting) (was : MeterView) (waiting : s.frames ≡ f ∷ fs) (on : was.stopped ≡ None) (k : FoldsAt (is_limited was.room) blocks s f fs) where
    abbrev Before : State
    Before = record s { memory = k.was }

    pub block_asked : s.number < length blocks
    block_asked = (safe_block blocks s.number (f.slot + bound_count f.binds) k.waits.0.asks).0

    pub slots_left : f.slot ≤ length s.memory.slots
    slots_left =
        let long : length s.memory.slots ≡ length (take f.slot k.was.slots) = ap (λ (m : MemoryView). length m.slots) k.cuts in
        omega (arith, long, length-take-le f.slot k.was.slots (omega (arith, k.waits.0.slots)))

    from_frame : (e : Ending Room) → Passes world blocks s.begun f.number fs (cut f k.was) (FrameGoesOn world blocks f s.number (cut f k.was) was.room) e → ComesFoldingOn world blocks s was.room e
    from_frame e p =
        by_top (λ f fs e. Passes world blocks s.begun f.number fs (cut f s.memory) (FrameGoesOn world blocks f s.number (cut f s.memory) was.room) e) s.frames f fs waiting e (
        subst (λ c. Passes world blocks s.begun f.number fs c (FrameGoesOn world blocks f s.number c was.room) e) (sym (ap (cut f) k.cuts ∙ cut_twice f k.was)) p
        )

    -- it is asked about none
    module _ (mid : PredicateRun) (stays : (t : Fold) (rs : List ItemAnswer) → RunRepresents f.run t rs → RunRepresents mid t rs) (gs : List Waiting) (put : gs ≡ running mid f ∷ fs) where
      pub none_left : EndsForTop (is_limited was.room) blocks (record s { frames = gs }) gs
      none_left =
          subst (EndsForTop (is_limited was.room) blocks (record s { frames = gs })) (sym put) (
          record {
            fold = k.fold;
            replies = k.replies;
            given = stays k.fold k.replies k.given;
            cuts = cut_stays f s.memory k.was k.cuts;
            caller = finish_given (is_limited was.room) blocks s (running mid f) fs s.number k.was s.memory k.cuts (running_waits (is_limited was.room) blocks s.number f fs k.was mid k.waits);
          }
          )

    module _ (mid : PredicateRun) (x : Value) (question : (t : Fold) (rs : List ItemAnswer) → RunRepresents f.run t rs → Some (pending_args mid x) ≡ next_args t rs (remaining_items f.run))
        (out : (t : Fold) (rs : List ItemAnswer) → RunRepresents f.run t rs → (remaining_items f.run ≡ x ∷ remaining_items mid) × Awaits mid t rs) where
      -- its block passes a limit where it is entered
      pub next_limited : (limit : Limit) → rooms.enters (length (ops_of blocks s.number)) was.room (Err limit) → ComesFoldingOn world blocks s was.room (stops limit)
      next_limited limit enters =
          from_frame (stops limit)
          (next_stops (is_limited was.room) world blocks Before f fs s.number k.was k.waits (pending_args mid x) mid was.room limit (next_bound f.run mid mid x question out (λ t rs w. w) refl) enters)

      -- its block begins
      module _ (run : PredicateRun) (awaits : (t : Fold) (rs : List ItemAnswer) → Awaits mid t rs → Awaits run t rs) (left : remaining_items run ≡ remaining_items mid) (n : MemoryView)
          (binds : BindsItem f.slot s.memory n (bound_helds f.items f.binds (pending_args mid x))) (is : MeterView) (enters : (is.stopped ≡ was.stopped) × rooms.enters (length (ops_of blocks s.number)) was.room (Ok is.room)) where
        keeps_next : IsTrue (is_limited was.room) → (t : Fold) (rs : List ItemAnswer) → Awaits run t rs → RetainsAs f.keeps t
        keeps_next h t rs w =
            let first : Awaits run k.fold k.replies = awaits k.fold k.replies (out k.fold k.replies k.given).1 in
            retains_same f.keeps run k.fold t k.replies rs first w (k.keeps h k.fold k.replies k.given)

        next_begins : Done world blocks (ComesFoldingOn world blocks s was.room) is (begun_at s.number (length (ops_of blocks s.number)) n (asking run (size_left was.room) f ∷ fs) s)
        next_begins =
            done_from world blocks (Passes world blocks s.begun f.number fs (cut f k.was) (FrameGoesOn world blocks f s.number (cut f k.was) was.room)) (ComesFoldingOn world blocks s was.room) from_frame is
            (begun_at s.number (length (ops_of blocks s.number)) n (asking run (size_left was.room) f ∷ fs) s)
            (next_done world blocks Before f fs s.memory n was is k.cuts on k.waits (pending_args mid x) binds run (next_bound f.run mid run x question out awaits left) k.fold k.replies k.given keeps_next enters)

        pub next_asked : (at : ℕ) (st : List Cell) (gs : List Waiting) → at ≡ length (ops_of blocks s.number) → st ≡ [] → gs ≡ asking run (size_left was.room) f ∷ fs
            → Done world blocks (ComesFoldingOn world blocks s was.room) is (record s { at = at; stack = st; memory = n; frames = gs })
        next_asked at st gs long empty put =
            subst (λ a. Done world blocks (ComesFoldingOn world blocks s was.room) is (record s { at = a; stack = st; memory = n; frames = gs })) (sym long) (
            subst (λ y. Done world blocks (ComesFoldingOn world blocks s was.room) is (record s { at = length (ops_of blocks s.number); stack = y; memory = n; frames = gs })) (sym empty) (
            subst (λ hs. Done world blocks (ComesFoldingOn world blocks s was.room) is (record s { at = length (ops_of blocks s.number); stack = []; memory = n; frames = hs })) (sym put) next_begins
            )
            )

-- the innermost frame of a machine is the last, and so it is after a change of that
pub frames_top : {A Z : Type 0} (v : Vec (Frame A) Z) (f : Frame A) → 0 < v.len → f ≡ slice_index_or v.items (v.len - 1) f → reverse (map waiting_of v.items) ≡ waiting_of f ∷ reverse (map waiting_of (front_of v.items))
frames_top v f some is = ap (λ fs. reverse (map waiting_of fs)) (last_frame v f some is) ∙ turned (front_of v.items) f

pub frames_last : {A Z : Type 0} (v : Vec (Frame A) Z) (xs : List (Frame A)) (f : Frame A) → xs ≡ v.items → 0 < length xs → f ≡ slice_index_or xs (length xs - 1) f → reverse (map waiting_of v.items) ≡ waiting_of f ∷ reverse (map waiting_of (front_of v.items))
frames_last v xs f same some is =
    let some_len : 0 < v.len = omega (arith, v.ok.0, ap length same) in
    frames_top v f some_len (is ∙ (ap (λ ys. slice_index_or ys (length ys - 1) f) same ∙ ap (λ n. slice_index_or v.items (n - 1) f) (sym v.ok.0)))

pub frames_put : {A Z : Type 0} (v : Vec (Frame A) Z) (f y : Frame A) → 0 < v.len → reverse (map waiting_of (with_item v (v.len - 1) y).items) ≡ waiting_of y ∷ reverse (map waiting_of (front_of v.items))
frames_put v f y some = ap (λ fs. reverse (map waiting_of fs)) (last_put v f y some) ∙ turned (front_of v.items) y

pub frames_popped : {A : Type 0} (old new : List (Frame A)) (f : Frame A) → old ≡ new ++ f ∷ [] → reverse (map waiting_of old) ≡ waiting_of f ∷ reverse (map waiting_of new)
frames_popped old new f is = ap (λ fs. reverse (map waiting_of fs)) is ∙ turned new f

-- by what its halts mean, a run goes no further
module _ {H P L N K A M : Type 0} (host_of : H → Host) (context_of : P → ContextView) (held : L → Value) (text : N → List ℕ) (metered : M → MeterView) (before : Allowed) (m : Machine H P L N K A M) where
  module _ {R E : Type 0} (halt_of : E → Halt) (Given : E → Type 0) (r : Result R E) (given : IsErrAnd r Given) where
    pub halt_folds : (k : Halt) → ((h : E) → Given h → halt_of h ≡ k)
        → Halts (seen.place_of host_of context_of held text metered m) (seen.code_of host_of context_of held text metered m) before (metered m.meter) (seen.state_of host_of context_of held text metered m) k
        → Folds host_of context_of held text metered before m (told halt_of r)
    halt_folds k law p = subst (Folds host_of context_of held text metered before m) (sym (told_as halt_of Given k law r given)) p
