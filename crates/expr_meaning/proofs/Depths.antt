-- The result of code within limits is never deeper than the limit.
use Rattle.std.proofs.Common.{◌≡◌, ℕ, ◌≤◌, List, [], Result, Ok, Err, refl, sym, ap, subst, arith}
use Rattle.expr_code.specs.Instructions.{Op}
use Rattle.expr_limits.specs.Sizes.{depth, inner_weight, weight}
use Rattle.expr_meaning.specs.World.{World}
use Rattle.expr_value.specs.declared.value.Value.{Value}
use Rattle.expr_limits.specs.Counting.{ChargeThen, Ending, ThenIfGives, ThenIfCharged, gives, refuses, stops}
use Rattle.expr_meaning.specs.Counts.{CodeCounts, Costs}
use Rattle.expr_limits.specs.Rooms.{TakesWork, Holds, Room, Takes, rooms, unlimited, limited, with_size}
use Rattle.expr_limits.specs.declared.limit.Limit.{Limit}
use Rattle.expr_meaning.proofs.Endings.{not_stopped}
use Rattle.expr_meaning.proofs.Stays.{InCharge, InEnding, runs_stay}

-- how deep values may be, where there is a limit of it
abbrev IsDeepest : ℕ → Room → Type 0
IsDeepest d unlimited = ⊥
IsDeepest d (limited s w e) = e ≡ d

-- nothing is said of limits
abbrev Any : Limit → Type 0
Any limit = Unit {0}

takes : (d n k : ℕ) (now : Room) (r : Result Room Limit) → Takes n k now r → IsDeepest d now → InCharge (IsDeepest d) Any r
takes d n k unlimited r t h = absurd h
takes d n k (limited s w e) (Ok next) t h = subst (IsDeepest d) (sym t.2) h
takes d n k (limited s w e) (Err limit) t h = tt

begins : (d n k : ℕ) (now : Room) (r : Result Room Limit) → TakesWork n k now r → IsDeepest d now → InCharge (IsDeepest d) Any r
begins d n k unlimited r t h = absurd h
begins d n k (limited s w e) (Ok next) t h = subst (IsDeepest d) (sym t.2) h
begins d n k (limited s w e) (Err limit) t h = tt

holds : (d n k : ℕ) (now : Room) (r : Result Room Limit) → Holds n k now r → IsDeepest d now → InCharge (IsDeepest d) Any r
holds d n k unlimited r t h = absurd h
holds d n k (limited s w e) (Ok next) t h = takes d n n (limited s w e) (Ok next) t.1 h
holds d n k (limited s w e) (Err limit) t h = tt

frees : (d mark : ℕ) (now : Room) → IsDeepest d now → IsDeepest d (with_size mark now)
frees d mark unlimited h = absurd h
frees d mark (limited s w e) h = h

abbrev IsGiven : Ending Room → Type 0
IsGiven (gives v now) = Unit {0}
IsGiven (refuses e) = ⊥
IsGiven (stops limit) = ⊥

abbrev depth_of : Ending Room → ℕ
depth_of (gives v now) = depth v
depth_of (refuses e) = 0
depth_of (stops limit) = 0

kept : (d : ℕ) (u v : Value) (left room : Room) (r : Result Room Limit) → IsDeepest d room → Holds (weight u) (depth u) room r → ThenIfCharged r (λ last e. e ≡ gives u last) (gives v left) → depth v ≤ d
kept d u v left unlimited r h c p = absurd h
kept d u v left (limited s w e) (Ok now) h c p =
    let same : depth v ≡ depth u = ap depth_of p in
    omega (arith, h, c.0, same)
kept d u v left (limited s w e) (Err limit) h c p = absurd (not_stopped (Ok v) left limit p)

ended_by : (d mark : ℕ) (v : Value) (left : Room) (x : Ending Room) → InEnding (IsDeepest d) Any x → ThenIfGives x (λ u ran. ChargeThen (rooms.keeps u) (with_size mark ran) (λ last e. e ≡ gives u last)) (gives v left) → depth v ≤ d
ended_by d mark v left (gives u ran) h (r, c, p) = kept d u v left (with_size mark ran) r (frees d mark ran h) c p
ended_by d mark v left (refuses e) h p = absurd (subst IsGiven p tt)
ended_by d mark v left (stops limit) h p = absurd (subst IsGiven p tt)

pub code_depth : (costs : Costs) (world : World) (blocks : List (List Op)) (s w d : ℕ) (v : Value) (left : Room) → CodeCounts rooms costs world blocks (limited s w d) (gives v left) → depth v ≤ d
code_depth costs world blocks s w d v left (x, ran, p) =
    ended_by d w v left x (
    runs_stay rooms (IsDeepest d) Any (record {
      enters = λ n. takes d n n;
      works = λ n k. begins d n k;
      makes = λ v. holds d (inner_weight v) (depth v);
      keeps = λ v. holds d (weight v) (depth v);
      freed = frees d;
    }) costs world blocks 0 [] (limited s w d) x refl ran
    ) p
