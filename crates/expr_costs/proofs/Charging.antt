-- What is counted of a cost that was computed up to a bound.
use Rattle.std.proofs.Common.{◌≡◌, ℕ, ◌+◌, ◌<◌, false, Result, Ok, Err, refl, subst, arith}
use Rattle.expr_limits.specs.Counting.{Charge}
use Rattle.expr_limits.specs.MeterView.{Charges, MeterView}
use Rattle.expr_limits.specs.Rooms.{TakesWork, Overruns, Room, is_limited, least_steps, unlimited, limited}
use Rattle.expr_limits.specs.declared.limit.Limit.{Limit}
use Rattle.expr_limits.specs.declared.limit.Limit.TheVariants.{Steps}

-- where more is needed than is left, the steps are what runs out
overruns : (room : Room) (bound n k : ℕ) (r : Result Room Limit) → bound ≡ least_steps room → bound < n + k → Overruns room r → TakesWork n k room r
overruns unlimited bound n k r left more o = o
overruns (limited s w d) bound n k (Ok now) left more o = absurd (cc)
overruns (limited s w d) bound n k (Err limit) left more o =
    let is : Steps ≡ limit = cc in
    subst (λ l. TakesWork n k (limited s w d) (Err l)) is (omega (arith, left, more))

charges_by : {A E : Type 0} (limit : E → Limit) (r : Result A E) (c d : Charge Room) (old new : MeterView) → ((x : Result Room Limit) → c old.room x → d old.room x) → Charges limit r c old new → Charges limit r d old new
charges_by limit (Ok v) c d old new f p = (p.0, f (Ok new.room) p.1)
charges_by limit (Err e) c d old new f p = (p.0, f (Err (limit e)) p.1)

pub overrun_begins : {A E : Type 0} (limit : E → Limit) (r : Result A E) (bound n k : ℕ) (old new : MeterView) → bound ≡ least_steps old.room → bound < n + k → Charges limit r Overruns old new → Charges limit r (TakesWork n k) old new
overrun_begins limit r bound n k old new left more p = charges_by limit r Overruns (TakesWork n k) old new (λ x o. overruns old.room bound n k x left more o) p

-- only a meter that counts nothing goes on
goes_unlimited : (old new : Room) → Overruns old (Ok new) → is_limited new ≡ false
goes_unlimited unlimited unlimited o = refl
goes_unlimited unlimited (limited s w d) o = absurd (cc)
goes_unlimited (limited s w d) new o = absurd (cc)

pub counts_nothing : {A E : Type 0} (limit : E → Limit) (a : A) (old new : MeterView) → Charges {A = A} {E = E} limit (Ok a) Overruns old new → is_limited new.room ≡ false
counts_nothing limit a old new p = goes_unlimited old.room new.room p.1
