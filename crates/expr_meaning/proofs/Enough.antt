-- Parts of a run that answer wherever there is room enough.
use Rattle.std.proofs.Common.{◌≡◌, ℕ, ◌+◌, ◌-◌, ◌≤◌, Bool, true, false, List, [], ◌∷◌, Ok, Err, refl, sym, ap, subst, arith}
use Rattle.std.specs.Prelude.{if◌then◌else◌}
use Rattle.expr_limits.specs.Sizes.{depth, weight}
use Rattle.expr_value.specs.Answers.{Answer}
use Rattle.expr_error.specs.ErrorKind.{ErrorKind}
use Rattle.expr_value.specs.declared.value.Value.{Value}
use Rattle.expr_limits.specs.Counting.{EndsWithAnswer, Charge, ChargeThen, Ending, KeepAllThen, EndingThen, ending_of, gives, refuses}
use Rattle.expr_limits.specs.Rooms.{TakesWork, Holds, Room, Takes, rooms, size_left, unlimited, limited, with_size}

-- what is left is less by no more than this, and no more than a bound
pub record Less (need s w u d : ℕ) (P : Room → Type 0) : Type 0 where
  pub steps : ℕ
  pub size : ℕ
  pub goes : P (limited steps size d)
  pub fewer : s ≤ steps + need
  pub less : w ≤ size + need
  pub bound : size ≤ u

-- a room has at least this much, and no more than the first one had
abbrev pub Has : ℕ → (first now : Room) → Type 0
Has need first unlimited = Unit {0}
Has need unlimited (limited s w d) = ⊥
Has need (limited t u e) (limited s w d) = (need ≤ s) × (need ≤ w) × (need ≤ d) × (w ≤ u)

abbrev pub Left : ℕ → (first now : Room) → (Room → Type 0) → Type 0
Left need first unlimited P = P unlimited
Left need unlimited (limited s w d) P = ⊥
Left need (limited t u e) (limited s w d) P = Less need s w u d P

-- a part of a run that began with the first room
abbrev pub Part : Type 1
Part = (first now : Room) → Ending Room → Type 0

-- one that depends on what is left alone
abbrev pub Alone : (Room → Ending Room → Type 0) → Part
Alone part first now end = part now end

-- this much room is enough for the result of a part
abbrev pub Enough : ℕ → Answer → Part → Type 0
Enough need a part = (first now : Room) → Has need first now → Left need first now (λ left. part first now (ending_of a left))

abbrev pub Ample : Answer → Part → Type 0
Ample a part = (need : ℕ) × Enough need a part

-- a part that continues after this much
less_more : (need s w u d m r s' w' : ℕ) (P Q : Room → Type 0) → ((left : Room) → P left → Q left) → s ≤ s' + m → w ≤ w' + m → m + r ≤ need → Less r s' w' u d P → Less need s w u d Q
less_more need s w u d m r s' w' P Q f p q e l =
    record { steps = l.steps; size = l.size; goes = f (limited l.steps l.size d) l.goes; fewer = omega (arith, p, e, l.fewer); less = omega (arith, q, e, l.less); bound = l.bound }

-- more is known of a part
left_more : (need : ℕ) (first now : Room) (P Q : Room → Type 0) → ((left : Room) → P left → Q left) → Left need first now P → Left need first now Q
left_more need first unlimited P Q f l = f unlimited l
left_more need unlimited (limited s w d) P Q f l = absurd l
left_more need (limited t u e) (limited s w d) P Q f l =
    record { steps = l.steps; size = l.size; goes = f (limited l.steps l.size d) l.goes; fewer = l.fewer; less = l.less; bound = l.bound }

pub ample_more : (a : Answer) (part part' : Part) → ((first now : Room) (e : Ending Room) → part first now e → part' first now e) → Ample a part → Ample a part'
ample_more a part part' f (m, one) =
    (m, λ first now h. left_more m first now (λ left. part first now (ending_of a left)) (λ left. part' first now (ending_of a left)) (λ left. f first now (ending_of a left)) (one first now h))

-- one that has its result at once
here : (a : Answer) (part : Part) → ((first now : Room) → part first now (ending_of a now)) → Enough 0 a part
here a part p first unlimited h = p first unlimited
here a part p unlimited (limited s w d) h = absurd h
here a part p (limited t u e) (limited s w d) h =
    record { steps = s; size = w; goes = p (limited t u e) (limited s w d); fewer = omega arith; less = omega arith; bound = h.3 }

pub ample_here : (a : Answer) (part : Part) → ((first now : Room) → part first now (ending_of a now)) → Ample a part
ample_here a part p = (0, here a part p)

-- an answer for which nothing is counted
pub ample_answer : (a : Answer) (allowed : Answer → Type 0) → allowed a → Ample a (Alone (EndsWithAnswer allowed))
ample_answer a allowed p = ample_here a (Alone (EndsWithAnswer allowed)) (λ first now. (a, p, refl))

-- a charge that passes with this much room
pub record Fits (m : ℕ) (charge : Charge Room) (s w d : ℕ) : Type 0 where
  pub steps : ℕ
  pub size : ℕ
  pub goes : charge (limited s w d) (Ok (limited steps size d))
  pub fewer : s ≤ steps + m
  pub less : w ≤ size + m
  pub bound : size ≤ w

abbrev pub Passable : ℕ → Charge Room → Type 0
Passable m charge = charge unlimited (Ok unlimited) × ((s w d : ℕ) → m ≤ s → m ≤ w → m ≤ d → Fits m charge s w d)

pub takes_passes : (n k : ℕ) → Passable (n + k) (Takes n k)
takes_passes n k = (refl, λ s w d p q r. record { steps = s - n; size = w - k; goes = (omega (arith, p), omega (arith, q), refl); fewer = omega arith; less = omega arith; bound = omega arith })

pub begins_passes : (n k : ℕ) → Passable (n + k) (TakesWork n k)
begins_passes n k = (refl, λ s w d p q r. record { steps = s - n; size = w; goes = (omega (arith, p), omega (arith, q), refl); fewer = omega arith; less = omega arith; bound = omega arith })

pub holds_passes : (n e : ℕ) → Passable (n + e) (Holds n e)
holds_passes n e = (
  refl,
  λ s w d p q r. record {
    steps = s - n;
    size = w - n;
    goes = (omega (arith, r), (omega (arith, p), omega (arith, q), refl));
    fewer = omega arith;
    less = omega arith;
    bound = omega arith;
  },
)

counted_enough : (m r : ℕ) (charge : Charge Room) (a : Answer) (part : Part) → Passable m charge → Enough r a part → Enough (m + r) a (λ first now. ChargeThen charge now (part first))
counted_enough m r charge a part passable more first unlimited h = (Ok unlimited, passable.0, more first unlimited tt)
counted_enough m r charge a part passable more unlimited (limited s w d) h = absurd h
counted_enough m r charge a part passable more (limited t u e) (limited s w d) h =
    let f = passable.1 s w d (omega (arith, h.0)) (omega (arith, h.1)) (omega (arith, h.2)) in
    let l = more (limited t u e) (limited f.steps f.size d) (omega (arith, h.0, f.fewer), omega (arith, h.1, f.less), omega (arith, h.2), omega (arith, h.3, f.bound)) in
    less_more (m + r) s w u d m r f.steps f.size (λ left. part (limited t u e) (limited f.steps f.size d) (ending_of a left)) (λ left. ChargeThen charge (limited s w d) (part (limited t u e)) (ending_of a left)) (
    λ left p. (Ok (limited f.steps f.size d), f.goes, p)
    ) f.fewer f.less (omega arith) l

-- first something is counted
pub ample_counted : (m : ℕ) (charge : Charge Room) (a : Answer) (part : Part) → Passable m charge → Ample a part → Ample a (λ first now. ChargeThen charge now (part first))
ample_counted m charge a part passable (r, more) = (m + r, counted_enough m r charge a part passable more)

-- first these values are kept
pub ample_keeping : (vs : List Value) (a : Answer) (part : Part) → Ample a part → Ample a (λ first now. KeepAllThen rooms vs now (part first))
ample_keeping [] a part p = p
ample_keeping (v ∷ vs) a part p =
    ample_counted (weight v + depth v) (Holds (weight v) (depth v)) a (λ first now. KeepAllThen rooms vs now (part first)) (holds_passes (weight v) (depth v)) (ample_keeping vs a part p)

-- a part that starts again
anew : (r : ℕ) (a : Answer) (part : Part) → Enough r a part → Enough r a (λ first now. part now now)
anew r a part one first unlimited h = one unlimited unlimited tt
anew r a part one unlimited (limited s w d) h = absurd h
anew r a part one (limited t u e) (limited s w d) h =
    let l = one (limited s w d) (limited s w d) (h.0, h.1, h.2, omega arith) in
    record { steps = l.steps; size = l.size; goes = l.goes; fewer = l.fewer; less = l.less; bound = omega (arith, h.3, l.bound) }

pub ample_anew : (a : Answer) (part : Part) → Ample a part → Ample a (λ first now. part now now)
ample_anew a part (r, one) = (r, anew r a part one)

-- what is left once all is gone that was made since a room was the one or the other
pub record Freed (b : Bool) (t u e s w d s' w' : ℕ) : Type 0 where
  pub size : ℕ
  pub is : with_size (if b then size_left (limited t u e) else size_left (limited s w d)) (limited s' w' d) ≡ limited s' size d
  pub less : w ≤ size
  pub bound : size ≤ u

frees : (b : Bool) (t u e s w d s' w' : ℕ) → w ≤ u → Freed b t u e s w d s' w'
frees true t u e s w d s' w' k = record { size = u; is = refl; less = k; bound = omega arith }
frees false t u e s w d s' w' k = record { size = w; is = refl; less = omega arith; bound = k }

-- first a question, then all is gone that was made for it, and then what follows
abbrev pub AskedThen : Bool → (Room → Ending Room → Type 0) → (Value → Part) → Part
AskedThen b asked next first now = EndingThen (asked now) (λ v ran. next v first (with_size (if b then size_left first else size_left now) ran))

asked_enough : (m r : ℕ) (b : Bool) (asked : Room → Ending Room → Type 0) (next : Value → Part) (a : Answer) (v : Value) → Enough m (Ok v) (Alone asked) → Enough r a (next v)
    → Enough (m + r) a (AskedThen b asked next)
asked_enough m r b asked next a v one more first unlimited h = (gives v unlimited, one first unlimited tt, more first unlimited tt)
asked_enough m r b asked next a v one more unlimited (limited s w d) h = absurd h
asked_enough m r b asked next a v one more (limited t u e) (limited s w d) h =
    let l = one (limited s w d) (limited s w d) (omega (arith, h.0), omega (arith, h.1), omega (arith, h.2), omega arith) in
    let f = frees b t u e s w d l.steps l.size h.3 in
    let n = more (limited t u e) (limited l.steps f.size d) (omega (arith, h.0, l.fewer), omega (arith, h.1, f.less), omega (arith, h.2), f.bound) in
    less_more (m + r) s w u d m r l.steps f.size (λ left. next v (limited t u e) (limited l.steps f.size d) (ending_of a left)) (λ left. AskedThen b asked next (limited t u e) (limited s w d) (ending_of a left)) (
    λ left p. (gives v (limited l.steps l.size d), l.goes, subst (λ z. next v (limited t u e) z (ending_of a left)) (sym f.is) p)
    ) l.fewer (omega (arith, f.less)) (omega arith) n

refused_enough : (m : ℕ) (b : Bool) (asked : Room → Ending Room → Type 0) (next : Value → Part) (a : Answer) (e : ErrorKind) → Enough m (Err e) (Alone asked) → a ≡ Err e → Enough m a (AskedThen b asked next)
refused_enough m b asked next a f one same first unlimited h = (refuses f, one first unlimited tt, ap (λ x. ending_of x unlimited) same)
refused_enough m b asked next a f one same unlimited (limited s w d) h = absurd h
refused_enough m b asked next a f one same (limited t u e) (limited s w d) h =
    let l = one (limited s w d) (limited s w d) (h.0, h.1, h.2, omega arith) in
    record {
      steps = l.steps;
      size = l.size;
      goes = (refuses f, l.goes, ap (λ x. ending_of x (limited l.steps l.size d)) same);
      fewer = l.fewer;
      less = l.less;
      bound = omega (arith, h.3, l.bound);
    }

pub ample_asked : (b : Bool) (asked : Room → Ending Room → Type 0) (next : Value → Part) (a : Answer) (v : Value) → Ample (Ok v) (Alone asked) → Ample a (next v) → Ample a (AskedThen b asked next)
ample_asked b asked next a v (m, one) (r, more) = (m + r, asked_enough m r b asked next a v one more)

pub ample_refused : (b : Bool) (asked : Room → Ending Room → Type 0) (next : Value → Part) (a : Answer) (e : ErrorKind) → Ample (Err e) (Alone asked) → a ≡ Err e → Ample a (AskedThen b asked next)
ample_refused b asked next a e (m, one) same = (m, refused_enough m b asked next a e one same)

-- enough within limits
pub ample_within : (a : Answer) (part : Room → Ending Room → Type 0) → Ample a (Alone part)
    → (need : ℕ) × ((steps size deepest : ℕ) → need ≤ steps → need ≤ size → need ≤ deepest → (left : Room) × part (limited steps size deepest) (ending_of a left))
ample_within a part (need, one) =
    (need, λ s w d p q r. let l = one (limited s w d) (limited s w d) (p, q, r, omega arith) in (limited l.steps l.size d, l.goes))

-- and without any
pub ample_unlimited : (a : Answer) (part : Room → Ending Room → Type 0) → Ample a (Alone part) → part unlimited (ending_of a unlimited)
ample_unlimited a part (need, one) = one unlimited unlimited tt
