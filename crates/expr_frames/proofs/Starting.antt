-- Where a run begins, and where it ends.
use Rattle.std.proofs.Common.{◌≡◌, Bool, ℕ, ◌≤◌, List, [], ◌∷◌, Ok, Err, refl, sym, ap, ◌∙◌, subst, length, drop, arith}
use Rattle.expr_code.specs.Held.{Held, made}
use Rattle.expr_code.specs.Instructions.{Act, Op, act, takes}
use Rattle.expr_code.specs.Safe.{IsSafeCode}
use Rattle.expr_costs.specs.Costs.{costs_in}
use Rattle.expr_frames.specs.Machines.{Comes, ComesFor, Passes}
use Rattle.expr_frames.specs.Ready.{IsReady, ops_of}
use Rattle.expr_frames.specs.Runs.{State}
use Rattle.expr_frames.proofs.Arms.{act_gives, act_stops, taken, taken_values, with_stack}
use Rattle.expr_frames.proofs.Frames.{end_comes}
use Rattle.expr_frames.proofs.Made.{CountsHeld, counts_made, made_held, made_value}
use Rattle.expr_frames.proofs.Walking.{runs_block, safe_block}
use Rattle.expr_limits.specs.Counting.{ChargeThen, Ending, ThenIfGives, gives, stops}
use Rattle.expr_limits.specs.Rooms.{Holds, Room, rooms, size_left, with_size}
use Rattle.expr_limits.specs.Sizes.{depth, inner_weight}
use Rattle.expr_limits.specs.declared.limit.Limit.{Limit}
use Rattle.expr_meaning.specs.CodeRuns.{AllowsAct}
use Rattle.expr_meaning.specs.Counts.{CodeCounts, act_held}
use Rattle.expr_meaning.specs.World.{World}
use Rattle.expr_stack.specs.Cells.{cell_value, made_cell}
use Rattle.expr_stack.specs.declared.cell.Cell.{Cell}
use Rattle.expr_value.specs.declared.value.Value.{Value}

-- before its first instruction
abbrev pub fresh : List (List Op) → ℕ → State
fresh blocks begun = record { number = 0; at = length (ops_of blocks 0); stack = []; memory = record { kept = []; slots = [] }; frames = []; begun = begun }

module _ (blocks : List (List Op)) (safe : IsSafeCode blocks) (begun : ℕ) where
  pub fresh_ready : (counted : Bool) → IsReady counted blocks (fresh blocks begun)
  fresh_ready counted =
      let first = safe_block blocks 0 0 safe in
      record { place = record { block = first.0; place = omega arith }; finds = first.1; stack = tt; slots = tt; waits = tt }

  module _ (world : World) (now : Room) (marks : begun ≡ size_left now) where
    -- what it may come to, code may come to
    pub fresh_comes : (after : Room) → rooms.enters (length (ops_of blocks 0)) now (Ok after) → (e : Ending Room) → Comes world blocks (fresh blocks begun) after e → CodeCounts rooms (costs_in world.host) world blocks now e
    fresh_comes after enters e p =
        let first = safe_block blocks 0 0 safe in (
          p.0,
          runs_block world blocks 0 first.0 [] now p.0 (Ok after, enters, p.1),
          subst (λ k. ThenIfGives p.0 (λ v ran. ChargeThen (rooms.keeps v) (with_size k ran) (λ last e. e ≡ gives v last)) e) marks p.2,
        )

    pub fresh_stops : (limit : Limit) → rooms.enters (length (ops_of blocks 0)) now (Err limit) → CodeCounts rooms (costs_in world.host) world blocks now (stops limit)
    fresh_stops limit enters =
        let first = safe_block blocks 0 0 safe in
        (stops limit, runs_block world blocks 0 first.0 [] now (stops limit) (Err limit, enters, refl), refl)

-- at the end of its first block a run has its answer, of all that it made
module _ (world : World) (blocks : List (List Op)) (s : State) (c : Cell) (now : Room) (ends : s.at ≡ 0) (is : s.stack ≡ c ∷ []) (alone : s.frames ≡ []) where
  pub last_gives : (after : Room) → rooms.keeps (cell_value s.memory.kept c) (with_size s.begun now) (Ok after) → Comes world blocks s now (gives (cell_value s.memory.kept c) after)
  last_gives after keeps =
      let v : Value = cell_value s.memory.kept c in
      end_comes world blocks s c now ends is (gives v after) (
      subst (λ fs. Passes world blocks s.begun s.number fs s.memory (λ x. x ≡ gives v now) (gives v after)) (sym alone) (gives v now, refl, (Ok after, keeps, refl))
      )

  pub last_stops : (limit : Limit) → rooms.keeps (cell_value s.memory.kept c) (with_size s.begun now) (Err limit) → Comes world blocks s now (stops limit)
  last_stops limit keeps =
      let v : Value = cell_value s.memory.kept c in
      end_comes world blocks s c now ends is (stops limit) (
      subst (λ fs. Passes world blocks s.begun s.number fs s.memory (λ x. x ≡ gives v now) (stops limit)) (sym alone) (gives v now, refl, (Err limit, keeps, refl))
      )

-- an act at the end of the code makes its answer
module _ (world : World) (blocks : List (List Op)) (a : Act) (plain : (hs : List Held) (v : Value) → act_held a hs v ≡ made v) (s : State) (enough : takes a ≤ length s.stack) (now begun : Room)
    (pays : rooms.works ((costs_in world.host).work (act a) (taken_values (takes a) s)) ((costs_in world.host).room (act a) (taken_values (takes a) s)) now (Ok begun)) (v : Value)
    (ok : AllowsAct world.host a (taken_values (takes a) s) (Ok v)) (ends : s.at ≡ 0) (alone : s.frames ≡ []) (nothing : drop (takes a) s.stack ≡ []) where
  module _ (after : Room) (makes : Holds (inner_weight v) (depth v) begun (Ok after)) where
    made_comes : (e : Ending Room) → Comes world blocks (with_stack (made_cell v ∷ drop (takes a) s.stack) s) after e → ComesFor world blocks s (act a) now e
    made_comes e p =
        act_gives world blocks a s enough now begun pays v ok (made_cell v) after (made_held s.memory.kept v ∙ sym (plain (taken (takes a) s) v)) (subst (λ h. CountsHeld h begun (Ok after)) (sym (made_held s.memory.kept v)) (counts_made v begun (Ok after) makes)) e p

    pub makes_last : (last : Room) → rooms.keeps v (with_size s.begun after) (Ok last) → ComesFor world blocks s (act a) now (gives v last)
    makes_last last keeps =
        let same : cell_value s.memory.kept (made_cell v) ≡ v = made_value s.memory.kept v in
        made_comes (gives v last) (subst (λ w. Comes world blocks (with_stack (made_cell v ∷ drop (takes a) s.stack) s) after (gives w last)) same (
        last_gives world blocks (with_stack (made_cell v ∷ drop (takes a) s.stack) s) (made_cell v) after ends (ap (λ t. made_cell v ∷ t) nothing) alone last (subst (λ w. rooms.keeps w (with_size s.begun after) (Ok last)) (sym same) keeps)
        ))

    pub makes_last_stops : (limit : Limit) → rooms.keeps v (with_size s.begun after) (Err limit) → ComesFor world blocks s (act a) now (stops limit)
    makes_last_stops limit keeps =
        let same : cell_value s.memory.kept (made_cell v) ≡ v = made_value s.memory.kept v in
        made_comes (stops limit)
        (last_stops world blocks (with_stack (made_cell v ∷ drop (takes a) s.stack) s) (made_cell v) after ends (ap (λ t. made_cell v ∷ t) nothing) alone limit (subst (λ w. rooms.keeps w (with_size s.begun after) (Err limit)) (sym same) keeps))

  pub makes_no_last : (limit : Limit) → Holds (inner_weight v) (depth v) begun (Err limit) → ComesFor world blocks s (act a) now (stops limit)
  makes_no_last limit makes =
      act_stops world blocks a s enough now begun pays v ok (made_cell v) limit (made_held s.memory.kept v ∙ sym (plain (taken (takes a) s) v)) (subst (λ h. CountsHeld h begun (Err limit)) (sym (made_held s.memory.kept v)) (counts_made v begun (Err limit) makes))
