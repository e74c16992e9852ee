-- What comes of a result that a frame takes at once, and of its next item.
use Rattle.std.proofs.Common.{◌≡◌, ℕ, ◌+◌, ◌≤◌, Bool, IsTrue, true, false, List, [], ◌∷◌, ◌++◌, Some, Ok, Err, refl, sym, ap, ◌∙◌, subst, length, map, take, arith}
use Rattle.std.specs.Prelude.{slice_get}
use Rattle.std.proofs.lemmas.List.{length-map, length-take-le, map-append, take-append-le, take-take, take_all}
use Rattle.expr_code.specs.CallBinds.{bound_arg, bound_count, bound_helds, bound_item}
use Rattle.expr_code.specs.Held.{Held, Owner, lend, lent, made, own, settle}
use Rattle.expr_code.specs.Instructions.{Op}
use Rattle.expr_code.specs.declared.binds.Binds.{Binds}
use Rattle.expr_code.specs.declared.binds.Binds.TheVariants.{Item, Index, Acc}
use Rattle.expr_context.specs.Told.{PredicateArgsView}
use Rattle.expr_costs.specs.Retention.{RetainsAs}
use Rattle.expr_frames.specs.Machines.{Comes, FrameGoesOn, FrameReplies, Passes}
use Rattle.expr_frames.specs.Ready.{AllWait, AllWaitButTop, IsReady, Waits, entered, ops_of}
use Rattle.expr_frames.specs.Runs.{State, Waiting, cut, item_of}
use Rattle.expr_frames.proofs.Frames.{Keeps, again_comes, again_ready, again_stops, asking, begun_at, bound_is, bound_long, end_replies, reply_goes, reply_stops, running, wait_but_top}
use Rattle.expr_frames.proofs.Memories.{all_within_more, cut_same}
use Rattle.expr_frames.proofs.Passing.{passes_from, passes_stop}
use Rattle.expr_frames.proofs.Retaining.{retains_same, same_kept}
use Rattle.expr_limits.specs.Counting.{Ending, stops}
use Rattle.expr_limits.specs.Rooms.{Room, rooms, size_left}
use Rattle.expr_limits.specs.declared.limit.Limit.{Limit}
use Rattle.expr_machine.specs.Taking.{IsTold}
use Rattle.expr_meaning.specs.World.{World}
use Rattle.expr_predicates.specs.Accumulators.{Awaits, RunRepresents, has_lent_items, pending_args, remaining_items}
use Rattle.expr_predicates.specs.Folds.{Fold, ItemAnswer, args_about, first_place, has_stopped, number, refuses_answer}
use Rattle.expr_predicates.specs.Plains.{IsIntegerItem, plain_value}
use Rattle.expr_predicates.specs.declared.run.Plain.{Plain}
use Rattle.expr_predicates.specs.declared.run.Plain.TheVariants as plain
use Rattle.expr_predicates.specs.declared.run.PredicateRun.{PredicateRun}
use Rattle.expr_predicates.proofs.Stopped.{acc_tells_index, acc_told, index_told, represents_rest, stops_alike}
use Rattle.expr_stack.specs.Cells.{AreWithin}
use Rattle.expr_stack.specs.Held.{held_of, helds, owner_if, slot_helds}
use Rattle.expr_stack.specs.Memories.{IsBoundAt, MemoryView}
use Rattle.expr_stack.specs.Operands.{plain_cells}
use Rattle.expr_stack.specs.declared.cell.Cell.TheVariants as cell
use Rattle.expr_stack.specs.declared.cell.Cell.{Cell}
use Rattle.expr_value.specs.declared.value.Value as value
use Rattle.expr_value.specs.declared.value.Value.{Value}

-- this result about this item was added to a run, and perhaps it is the last that is needed
pub record Adds (old new : PredicateRun) (x v : Value) (is_last : Bool) : Type 0 where
  pub left : remaining_items new ≡ remaining_items old
  pub taken : (t : Fold) (rs : List ItemAnswer) → Awaits old t rs → (refuses_answer t v ≡ false) × RunRepresents new t (rs ++ (x, v) ∷ []) × (has_stopped t (rs ++ (x, v) ∷ []) ≡ is_last)

-- the next item is out
pub record NextOut (old new : PredicateRun) (x : Value) : Type 0 where
  pub out : (t : Fold) (rs : List ItemAnswer) → RunRepresents old t rs → has_stopped t rs ≡ false → (remaining_items old ≡ x ∷ remaining_items new) × Awaits new t rs
  pub question : (t : Fold) (rs : List ItemAnswer) → RunRepresents old t rs → args_about t rs x ≡ pending_args new x
  pub lent : has_lent_items new ≡ has_lent_items old

-- a memory in which a call's item is bound anew
pub record BindsAgain (f : Waiting) (m n : MemoryView) (item : Plain) (place : ℕ) (acc : Plain) : Type 0 where
  pub kept : n.kept ≡ take f.places m.kept
  pub slots : n.slots ≡ take f.slot m.slots ++ plain_cells item place acc f.binds

within_plain : (k : ℕ) (cs : List Cell) (item : Plain) (place : ℕ) (acc : Plain) (b : Binds) → AreWithin k cs → AreWithin k (cs ++ plain_cells item place acc b)
within_plain k [] item place acc Item w = (tt, tt)
within_plain k [] item place acc Index w = (tt, (tt, tt))
within_plain k [] item place acc Acc w = (tt, (tt, (tt, tt)))
within_plain k (c ∷ cs) item place acc b w = (w.0, within_plain k cs item place acc b w.1)

get_plain : (cs : List Cell) (n : ℕ) (item : Plain) (place : ℕ) (acc : Plain) (b : Binds) (k : ℕ) → length cs ≡ n → IsBoundAt k (slice_get (cs ++ plain_cells item place acc b) n)
get_plain [] n item place acc Item k is = subst (λ i. IsBoundAt k (slice_get (plain_cells item place acc Item) i)) is tt
get_plain [] n item place acc Index k is = subst (λ i. IsBoundAt k (slice_get (plain_cells item place acc Index) i)) is tt
get_plain [] n item place acc Acc k is = subst (λ i. IsBoundAt k (slice_get (plain_cells item place acc Acc) i)) is tt
get_plain (c ∷ cs) n item place acc b k is = subst (λ i. IsBoundAt k (slice_get (c ∷ cs ++ plain_cells item place acc b) i)) is (get_plain cs (length cs) item place acc b k refl)

-- what is bound beside an item, where the last result is an integer or a boolean
number_held : (n : ℕ) → bound_arg (Some (number n)) ≡ lend (number n)
unfolding value.out-Value denote.Hole.Carrier.out
number_held n = refl

light_held : (v : Value) → made v ≡ lend v → bound_arg (Some v) ≡ lend v
light_held v light = ap settle light

binds_held : (kept : List Value) (item : Plain) (place : ℕ) (acc : Plain) (b : Binds) (q : PredicateArgsView) → q.item ≡ plain_value item → (b ≡ Item → Unit {0}) → ((b ≡ Index) → q.index ≡ Some (number place))
    → ((b ≡ Acc) → (q.index ≡ Some (number place)) × (q.acc ≡ Some (plain_value acc))) → made (plain_value acc) ≡ lend (plain_value acc)
    → helds kept (plain_cells item place acc b) ≡ bound_helds lent b q
binds_held kept item place acc Item q is _ i a light = ap (λ x. lend x ∷ []) (sym is)
binds_held kept item place acc Index q is _ i a light =
    ap (λ x. lend x ∷ lend (number place) ∷ []) (sym is) ∙ ap (λ h. lend q.item ∷ h ∷ []) (sym (ap bound_arg (i refl) ∙ number_held place))
binds_held kept item place acc Acc q is _ i a light =
    ap (λ x. lend x ∷ lend (number place) ∷ lend (plain_value acc) ∷ []) (sym is)
    ∙ ap (λ h. lend q.item ∷ h ∷ lend (plain_value acc) ∷ []) (sym (ap bound_arg (a refl).0 ∙ number_held place))
    ∙ ap (λ h. lend q.item ∷ bound_arg q.index ∷ h ∷ []) (sym (ap bound_arg (a refl).1 ∙ light_held (plain_value acc) light))

-- an item that needs no allocation is bound alike, whoever owns it
same_bound : (o : Owner) (b : Binds) (q : PredicateArgsView) → bound_item o q.item ≡ lend q.item → bound_helds lent b q ≡ bound_helds o b q
same_bound o Item q e = ap (λ h. h ∷ []) (sym e)
same_bound o Index q e = ap (λ h. h ∷ bound_arg q.index ∷ []) (sym e)
same_bound o Acc q e = ap (λ h. h ∷ bound_arg q.index ∷ bound_arg q.acc ∷ []) (sym e)

integer_bound : (item : Plain) → IsIntegerItem item → bound_item own (plain_value item) ≡ lend (plain_value item)
unfolding value.out-Value denote.Hole.Carrier.out
integer_bound (plain.Integer n) is = refl
integer_bound (plain.Bool b) is = absurd is
integer_bound (plain.Lent r) is = absurd is

pub plain_bound : (is_lent : Bool) (item : Plain) → (is_lent ≡ false → IsIntegerItem item) → bound_item (owner_if is_lent) (plain_value item) ≡ lend (plain_value item)
plain_bound true item is = refl
plain_bound false item is = integer_bound item (is refl)

-- what is bound is what the fold says
told_index : (b : Binds) (t : Fold) (rs : List ItemAnswer) (x : Value) (q : PredicateArgsView) (place : ℕ) → IsTold b t → b ≡ Index → args_about t rs x ≡ q → place ≡ first_place t + length rs → q.index ≡ Some (number place)
told_index Index t rs x q place told is about at = ap (λ (a : PredicateArgsView). a.index) (sym about) ∙ index_told t rs x told ∙ ap (λ n. Some (number n)) (sym at)
told_index Item t rs x q place told is about at = absurd (cc is)
told_index Acc t rs x q place told is about at = absurd (cc is)

told_acc : (b : Binds) (t : Fold) (rs : List ItemAnswer) (x y v : Value) (q : PredicateArgsView) (place : ℕ) → IsTold b t → b ≡ Acc → args_about t (rs ++ (y, v) ∷ []) x ≡ q → place ≡ first_place t + length (rs ++ (y, v) ∷ [])
    → (q.index ≡ Some (number place)) × (q.acc ≡ Some v)
told_acc Acc t rs x y v q place told is about at = (
  ap (λ (a : PredicateArgsView). a.index) (sym about) ∙ index_told t (rs ++ (y, v) ∷ []) x (acc_tells_index t told) ∙ ap (λ n. Some (number n)) (sym at),
  ap (λ (a : PredicateArgsView). a.acc) (sym about) ∙ acc_told t rs x y v told,
)
told_acc Item t rs x y v q place told is about at = absurd (cc is)
told_acc Index t rs x y v q place told is about at = absurd (cc is)

module _ (world : World) (blocks : List (List Op)) (s : State) (f : Waiting) (fs : List Waiting) (v : Value) (now : Room) (ends : s.at ≡ 0) (stack : s.stack ≡ cell.Value v ∷ []) (waiting : s.frames ≡ f ∷ fs) where
  -- a result that is kept passes a limit
  pub quick_stops : (limit : Limit) → Keeps world blocks f s.number (cut f s.memory) (item_of f s.memory) v now (Err limit) → Comes world blocks s now (stops limit)
  quick_stops limit keeps =
      end_replies world blocks s (cell.Value v) f fs now ends stack waiting (stops limit)
      (passes_stop world blocks s.begun f.number fs (cut f s.memory) (FrameReplies world blocks f s.number (cut f s.memory) (item_of f s.memory) v now) limit
      (reply_stops world blocks f s.number (cut f s.memory) (item_of f s.memory) v now limit keeps))

  module _ (run : PredicateRun) (after : Room) (is_last : Bool) (keeps : Keeps world blocks f s.number (cut f s.memory) (item_of f s.memory) v now (Ok after)) (adds : Adds f.run run (item_of f s.memory) v is_last) where
    -- the frame has its answer
    pub quick_answers : (e : Ending Room) → Passes world blocks s.begun f.number fs (cut f s.memory) (FrameGoesOn world blocks (running run f) s.number (cut f s.memory) after) e → Comes world blocks s now e
    quick_answers e p =
        end_replies world blocks s (cell.Value v) f fs now ends stack waiting e (
        passes_from world blocks s.begun f.number fs (cut f s.memory) (FrameGoesOn world blocks (running run f) s.number (cut f s.memory) after) (FrameReplies world blocks f s.number (cut f s.memory) (item_of f s.memory) v now)
        (reply_goes world blocks f s.number (cut f s.memory) (item_of f s.memory) v now run after keeps (λ t rs out. let g = adds.taken t rs out in (g.0, adds.left, g.1))) e p
        )

module _ (f : Waiting) (m n : MemoryView) (item : Plain) (place : ℕ) (acc : Plain) (b : BindsAgain f m n item place acc) (slots : f.slot + bound_count f.binds ≤ length m.slots) (places : f.places ≤ length m.kept) where
  front_long : length (take f.slot m.slots) ≡ f.slot
  front_long = length-take-le f.slot m.slots (omega (arith, slots))

  pub again_cut : cut f n ≡ cut f m
  again_cut =
      cut_same f m n
      (ap (take f.places) b.kept ∙ take-take f.places f.places m.kept (omega arith))
      (ap (take f.slot) b.slots ∙ take-append-le f.slot (take f.slot m.slots) (plain_cells item place acc f.binds) (omega (arith, front_long)) ∙ take-take f.slot f.slot m.slots (omega arith))

  pub again_far : f.places ≤ length n.kept
  again_far = omega (arith, ap length b.kept, length-take-le f.places m.kept places)

  pub again_within : AreWithin f.places (take f.slot m.slots) → AreWithin (length n.kept) n.slots
  again_within w =
      subst (AreWithin (length n.kept)) (sym b.slots) (
      within_plain (length n.kept) (take f.slot m.slots) item place acc f.binds (all_within_more f.places (length n.kept) (take f.slot m.slots) again_far w)
      )

  pub again_item : IsBoundAt f.places (slice_get n.slots f.slot)
  again_item = subst (λ cs. IsBoundAt f.places (slice_get cs f.slot)) (sym b.slots) (get_plain (take f.slot m.slots) f.slot item place acc f.binds f.places front_long)

  -- what is bound
  pub again_helds : (hs : List Held) → helds n.kept (plain_cells item place acc f.binds) ≡ hs → slot_helds n ≡ slot_helds (cut f m) ++ hs
  again_helds hs is =
      ap (map (held_of n.kept)) b.slots
      ∙ map-append (held_of n.kept) (take f.slot m.slots) (plain_cells item place acc f.binds)
      ∙ ap (λ cs. map (held_of n.kept) (take f.slot m.slots) ++ cs) is
      ∙ ap (λ k. map (held_of k) (take f.slot m.slots) ++ hs) b.kept

-- the frame goes on with its next item
module _ (world : World) (blocks : List (List Op)) (counted after_counted : Bool) (s : State) (f : Waiting) (fs : List Waiting) (acc : Plain) (now : Room)
    (ends : s.at ≡ 0) (stack : s.stack ≡ cell.Value (plain_value acc) ∷ []) (light : made (plain_value acc) ≡ lend (plain_value acc)) (waiting : s.frames ≡ f ∷ fs) (ready : IsReady counted blocks s) (same : IsTrue after_counted → IsTrue counted) where
  pub waits : AllWait counted blocks s.number (f ∷ fs) s.memory
  waits = subst (λ gs. AllWait counted blocks s.number gs s.memory) waiting ready.waits

  -- those that wait still do, by whatever is counted
  still_one : (g : Waiting) (asked floor : ℕ) (m : MemoryView) → Waits counted blocks g asked floor m → Waits after_counted blocks g asked floor m
  still_one g asked floor m w = record {
    stands = record {
      place = w.stands.place;
      finds = w.stands.finds;
      floor_is = w.stands.floor_is;
      later = w.stands.later;
      asks = w.stands.asks;
      slots = w.stands.slots;
      places = w.stands.places;
      stack = w.stands.stack;
      bound = w.stands.bound;
    };
    item = w.item;
    fold = w.fold;
    replies = w.replies;
    out = w.out;
    keeps = λ c. w.keeps (same c);
  }

  still : (gs : List Waiting) (asked : ℕ) (m : MemoryView) → AllWait counted blocks asked gs m → AllWait after_counted blocks asked gs m
  still [] asked m w = tt
  still (g ∷ gs) asked m w = (still_one g asked (entered gs) m w.0, still gs g.number (cut g m) w.1)

  pub top_stands : AllWaitButTop after_counted blocks s.number (f ∷ fs) s.memory
  top_stands = wait_but_top after_counted blocks s.number f fs s.memory (still (f ∷ fs) s.number s.memory waits)

  module _ (run : PredicateRun) (is_last : Bool) (adds : Adds f.run run (item_of f s.memory) (plain_value acc) is_last) where
    -- these replies stand for the run now
    abbrev pub GivenNow : Type 0
    GivenNow = (t : Fold) × (rs : List ItemAnswer) × RunRepresents run t rs × (has_stopped t rs ≡ is_last) × Awaits f.run t waits.0.replies × (rs ≡ waits.0.replies ++ (item_of f s.memory, plain_value acc) ∷ [])

    pub given_now : GivenNow
    given_now =
        let g = adds.taken waits.0.fold waits.0.replies waits.0.out in
        (waits.0.fold, waits.0.replies ++ (item_of f s.memory, plain_value acc) ∷ [], g.1, g.2, waits.0.out, refl)

    -- what is kept is told as before
    pub keeps_now : IsTrue after_counted → (t : Fold) (rs : List ItemAnswer) → RunRepresents run t rs → RetainsAs f.keeps t
    keeps_now c t rs stands =
        same_kept f.keeps given_now.0 t given_now.1 rs run.gathered (represents_rest run.gathered given_now.0 given_now.1 given_now.2.gathered) (represents_rest run.gathered t rs stands.gathered)
        (waits.0.keeps (same c) given_now.0 waits.0.replies given_now.4)

  module _ (run next : PredicateRun) (after after2 : Room) (keeps : Keeps world blocks f s.number (cut f s.memory) (item_of f s.memory) (plain_value acc) now (Ok after))
      (adds : Adds f.run run (item_of f s.memory) (plain_value acc) false) (item : Plain) (out : NextOut run next (plain_value item)) (own_item : bound_item f.items (plain_value item) ≡ lend (plain_value item)) where
    goes_on : (t : Fold) (rs : List ItemAnswer) → RunRepresents run t rs → has_stopped t rs ≡ false
    goes_on t rs stands = let g = given_now run false adds in stops_alike run t g.0 rs g.1 stands g.2 ∙ g.3

    next_asked : (t : Fold) (rs : List ItemAnswer) → RunRepresents run t rs
        → (has_stopped t rs ≡ false) × (args_about t rs (plain_value item) ≡ pending_args next (plain_value item)) × (remaining_items run ≡ plain_value item ∷ remaining_items next) × Awaits next t rs
    next_asked t rs stands = let o = out.out t rs stands (goes_on t rs stands) in (goes_on t rs stands, out.question t rs stands, o.0, o.1)

    -- but to enter the block passes a limit
    pub quick_stops_at_next : (limit : Limit) → rooms.enters (length (ops_of blocks s.number)) after (Err limit) → Comes world blocks s now (stops limit)
    quick_stops_at_next limit enters =
        quick_answers world blocks s f fs (plain_value acc) now ends stack waiting run after false keeps adds (stops limit)
        (again_stops world blocks s (running run f) fs s.number (cut f s.memory) s.memory (pending_args next (plain_value item)) (plain_value item) next after limit next_asked ready.place.block enters)

    module _ (n : MemoryView) (place : ℕ) (b : BindsAgain f s.memory n item place acc) (at : (t : Fold) (rs : List ItemAnswer) → Awaits next t rs → place ≡ first_place t + length rs)
        (told : (t : Fold) (rs : List ItemAnswer) → Awaits f.run t rs → IsTold f.binds t) (enters : rooms.enters (length (ops_of blocks s.number)) after (Ok after2)) where
      abbrev pub Now : State
      Now = begun_at s.number (length (ops_of blocks s.number)) n (asking next (size_left after) f ∷ fs) s

      q : PredicateArgsView
      q = pending_args next (plain_value item)

      cells_held : helds n.kept (plain_cells item place acc f.binds) ≡ bound_helds f.items f.binds (pending_args next (plain_value item))
      cells_held =
          let g = given_now run false adds in
          let o = next_asked g.0 g.1 g.2 in
          let where_is : place ≡ first_place g.0 + length g.1 = at g.0 g.1 o.3 in
          let t = told g.0 waits.0.replies g.4 in
          binds_held n.kept item place acc f.binds (pending_args next (plain_value item)) refl (λ e. tt)
          (λ e. told_index f.binds g.0 g.1 (plain_value item) (pending_args next (plain_value item)) place t e o.1 where_is)
          (λ e. told_acc f.binds g.0 waits.0.replies (plain_value item) (item_of f s.memory) (plain_value acc) (pending_args next (plain_value item)) place t e
          (subst (λ rs. args_about g.0 rs (plain_value item) ≡ pending_args next (plain_value item)) g.5 o.1) (subst (λ rs. place ≡ first_place g.0 + length rs) g.5 where_is))
          light
          ∙ same_bound f.items f.binds (pending_args next (plain_value item)) own_item

      bound : slot_helds n ≡ slot_helds (cut f s.memory) ++ bound_helds f.items f.binds (pending_args next (plain_value item))
      bound = again_helds f s.memory n item place acc b waits.0.stands.slots waits.0.stands.places (bound_helds f.items f.binds (pending_args next (plain_value item))) cells_held

      cuts : cut f n ≡ cut f s.memory
      cuts = again_cut f s.memory n item place acc b waits.0.stands.slots waits.0.stands.places

      front_bound : slot_helds n ≡ take f.slot (slot_helds (cut f s.memory)) ++ bound_helds f.items f.binds (pending_args next (plain_value item))
      front_bound =
          bound
          ∙ ap (λ hs. hs ++ bound_helds f.items f.binds (pending_args next (plain_value item)))
          (sym (take_all f.slot (slot_helds (cut f s.memory)) (omega (arith, length-map (take f.slot s.memory.slots) (held_of (take f.places s.memory.kept)), length-take-le f.slot s.memory.slots (omega (arith, waits.0.stands.slots))))))

      cut_long : f.slot ≤ length (cut f s.memory).slots
      cut_long = omega (arith, length-take-le f.slot s.memory.slots (omega (arith, waits.0.stands.slots)))

      pub quick_comes : (e : Ending Room) → Comes world blocks Now after2 e → Comes world blocks s now e
      quick_comes e p =
          quick_answers world blocks s f fs (plain_value acc) now ends stack waiting run after false keeps adds e
          (again_comes world blocks s (running run f) fs s.number (cut f s.memory) n (pending_args next (plain_value item)) (plain_value item) next after after2 next_asked cuts
          (bound_is f (cut f s.memory) n f.items (pending_args next (plain_value item)) cut_long front_bound) bound ready.place.block enters e p)

      pub quick_ready : IsReady after_counted blocks Now
      quick_ready =
          let g = given_now run false adds in
          let o = next_asked g.0 g.1 g.2 in
          again_ready after_counted blocks s f fs s.number s.memory n next (size_left after) top_stands cuts
          (bound_long f (cut f s.memory) n f.items (pending_args next (plain_value item)) cut_long front_bound)
          (again_far f s.memory n item place acc b waits.0.stands.slots waits.0.stands.places)
          (again_within f s.memory n item place acc b waits.0.stands.slots waits.0.stands.places waits.0.stands.bound)
          (again_item f s.memory n item place acc b waits.0.stands.slots waits.0.stands.places)
          g.0 g.1 o.3
          (λ c t rs w. retains_same f.keeps next g.0 t g.1 rs o.3 w (waits.0.keeps (same c) g.0 waits.0.replies g.4))
