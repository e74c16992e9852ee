-- Counting a run within limits: what is left of them.
use Rattle.std.specs.Prelude.{◌≡◌, ℕ, ◌+◌, ◌-◌, ◌<◌, ◌≤◌, max, Bool, true, false, Option, Some, None, Ok, Err}
use Rattle.expr_limits.specs.Sizes.{depth, inner_weight, weight}
use Rattle.expr_limits.specs.Counting.{Charge, Counting}
use Rattle.expr_limits.specs.declared.limit.Limit.TheVariants.{Steps, Size, Depth}

-- how many steps a run may still take, how much it may still hold, and how deep its values may be. Without limits
-- nothing is counted.
pub data Room : Type 0 where
  unlimited : Room
  limited : (steps size deepest : ℕ) → Room

-- takes steps and size
abbrev pub Takes : (steps size : ℕ) → Charge Room
Takes n k unlimited r = r ≡ Ok unlimited
Takes n k (limited s w d) (Ok now) = (n ≤ s) × (k ≤ w) × (now ≡ limited (s - n) (w - k) d)
Takes n k (limited s w d) (Err Steps) = s < n
Takes n k (limited s w d) (Err Size) = w < k
Takes n k (limited s w d) (Err limit) = ⊥

-- takes steps. As much as `room` must be left of both steps and size, but isn't taken yet.
abbrev pub TakesWork : (work room : ℕ) → Charge Room
TakesWork n k unlimited r = r ≡ Ok unlimited
TakesWork n k (limited s w d) (Ok now) = (n + k ≤ s) × (k ≤ w) × (now ≡ limited (s - n) w d)
TakesWork n k (limited s w d) (Err Steps) = s < n + k
TakesWork n k (limited s w d) (Err Size) = w < k
TakesWork n k (limited s w d) (Err limit) = ⊥

-- a value of this weight and depth is held. Each unit of weight takes a step too.
abbrev pub Holds : (weight depth : ℕ) → Charge Room
Holds n e unlimited r = r ≡ Ok unlimited
Holds n e (limited s w d) (Ok now) = (e ≤ d) × Takes n n (limited s w d) (Ok now)
Holds n e (limited s w d) (Err Steps) = s < n
Holds n e (limited s w d) (Err Size) = w < n
Holds n e (limited s w d) (Err Depth) = d < e
Holds n e (limited s w d) (Err limit) = ⊥

-- number of steps left, if there is a limit
abbrev pub steps_left : Room → Option ℕ
steps_left unlimited = None
steps_left (limited s w d) = Some s

-- whether anything is counted
abbrev pub is_limited : Room → Bool
is_limited unlimited = false
is_limited (limited s w d) = true

-- how many steps it may still take; 0, where there is no limit
abbrev pub least_steps : Room → ℕ
least_steps unlimited = 0
least_steps (limited s w d) = s

-- A piece of a run is over: at least `steps` of those that were left at its beginning are taken, and at least one. A
-- run that has no more steps than the piece doesn't pause.
abbrev pub IsDueAfter : (steps begun left : ℕ) → Type 0
IsDueAfter steps begun left = (max steps 1 < begun) × (left + max steps 1 ≤ begun)

-- more steps are needed than are left
abbrev pub Overruns : Charge Room
Overruns unlimited r = r ≡ Ok unlimited
Overruns (limited s w d) r = r ≡ Err Steps

-- size left, or 0 if there is no limit
abbrev pub size_left : Room → ℕ
size_left unlimited = 0
size_left (limited s w d) = w

abbrev pub with_size : ℕ → Room → Room
with_size k unlimited = unlimited
with_size k (limited s w d) = limited s k d

-- The mark of a room is the size that is left. What was made since then is gone, but not the steps that were taken.
-- An instruction takes a step and holds a unit, for which its block is charged. So a value that it makes is charged
-- without the unit of its slot, and one that is kept is charged with it.
abbrev pub rooms : Counting
rooms = record {
  Tally = Room;
  Mark = ℕ;
  enters = λ n. Takes n n;
  works = TakesWork;
  makes = λ v. Holds (inner_weight v) (depth v);
  keeps = λ v. Holds (weight v) (depth v);
  mark = size_left;
  freed = with_size;
}
