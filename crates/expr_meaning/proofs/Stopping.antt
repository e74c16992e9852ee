-- A counted run stops only at the limits of runs.
use Rattle.std.proofs.Common.{ℕ, List, Result, Ok, Err}
use Rattle.expr_code.specs.Instructions.{Op}
use Rattle.expr_limits.specs.Counting.{stops}
use Rattle.expr_limits.specs.Rooms.{TakesWork, Holds, Room, Takes, rooms, unlimited, limited}
use Rattle.expr_limits.specs.Sizes.{depth, inner_weight, weight}
use Rattle.expr_limits.specs.declared.limit.Limit.{Limit}
use Rattle.expr_limits.specs.declared.limit.Limit.TheVariants.{Nesting, Patterns, Steps, Depth, Size}
use Rattle.expr_meaning.proofs.Stays.{InCharge, code_stays}
use Rattle.expr_meaning.specs.Counts.{CodeCounts, Costs}
use Rattle.expr_meaning.specs.World.{World}

-- the limits of a run; those of an expression don't occur
abbrev pub IsOfRuns : Limit → Type 0
IsOfRuns Nesting = ⊥
IsOfRuns Patterns = ⊥
IsOfRuns limit = Unit {0}

-- nothing is said of what is left
abbrev Any : Room → Type 0
Any room = Unit {0}

takes : (n k : ℕ) (now : Room) (r : Result Room Limit) → Takes n k now r → InCharge Any IsOfRuns r
takes n k now (Ok next) t = tt
takes n k unlimited (Err limit) t = absurd (cc t)
takes n k (limited s w d) (Err Nesting) t = t
takes n k (limited s w d) (Err Patterns) t = t
takes n k (limited s w d) (Err Steps) t = tt
takes n k (limited s w d) (Err Depth) t = tt
takes n k (limited s w d) (Err Size) t = tt

begins : (n k : ℕ) (now : Room) (r : Result Room Limit) → TakesWork n k now r → InCharge Any IsOfRuns r
begins n k now (Ok next) t = tt
begins n k unlimited (Err limit) t = absurd (cc t)
begins n k (limited s w d) (Err Nesting) t = t
begins n k (limited s w d) (Err Patterns) t = t
begins n k (limited s w d) (Err Steps) t = tt
begins n k (limited s w d) (Err Depth) t = tt
begins n k (limited s w d) (Err Size) t = tt

holds : (n e : ℕ) (now : Room) (r : Result Room Limit) → Holds n e now r → InCharge Any IsOfRuns r
holds n e now (Ok next) t = tt
holds n e unlimited (Err limit) t = absurd (cc t)
holds n e (limited s w d) (Err Nesting) t = t
holds n e (limited s w d) (Err Patterns) t = t
holds n e (limited s w d) (Err Steps) t = tt
holds n e (limited s w d) (Err Depth) t = tt
holds n e (limited s w d) (Err Size) t = tt

-- a counted run within limits stops at one of these
pub stops_of_runs : (costs : Costs) (world : World) (blocks : List (List Op)) (now : Room) (limit : Limit) → CodeCounts rooms costs world blocks now (stops limit) → IsOfRuns limit
stops_of_runs costs world blocks now limit p =
    code_stays rooms Any IsOfRuns (record {
      enters = λ n room r t h. takes n n room r t;
      works = λ n k room r t h. begins n k room r t;
      makes = λ v room r t h. holds (inner_weight v) (depth v) room r t;
      keeps = λ v room r t h. holds (weight v) (depth v) room r t;
      freed = λ mark room h. tt;
    }) costs world blocks now (stops limit) tt p
