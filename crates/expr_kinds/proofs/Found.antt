-- What the readers of arguments find where the arguments are of their kinds.
use Rattle.std.proofs.Common.{◌≡◌, ℕ, ℤ, Bool, List, [], ◌∷◌, Option, Some, option_map, option_and_then, rules, refl, sym, ap, ◌∙◌, subst, None}
use Rattle.expr_arguments.specs.Arguments.{all_of, answer_on, both, one_of, two_of, any_value}
use Rattle.expr_arguments.specs.Times.{timezone_of}
use Rattle.expr_datetime.specs.declared.moment.DateTimeValue.{DateTimeValue}
use Rattle.expr_datetime.specs.declared.zone.TimezoneValue.{TimezoneValue}
use Rattle.expr_value.specs.Answers.{Answer}
use Rattle.expr_value.specs.Values.{duration_of, integer_of, items_of, map_of, moment_of, string_of, truth_of}
use Rattle.expr_value.specs.declared.value.Value as value
use Rattle.expr_value.specs.declared.value.Value.{Value, the_lemmas}
use Rattle.expr_schema.specs.Kinds.{Kind, never, bool, integer, string, duration, datetime, timezone, array, HasKind, Each, Effect, failing}
use Rattle.expr_kinds.specs.Effects.{ResultIs, Yields}
use Rattle.expr_kinds.specs.Overloads.{HaveKindsThen}

-- something with a property was found
abbrev pub Holds : {A : Type 0} → Option A → (A → Type 0) → Type 0
Holds {A} o P = (a : A) × (o ≡ Some a) × P a

-- a reader finds something with a property in each value of a kind
abbrev pub Finds : {A : Type 0} → (Value → Option A) → Kind → (A → Type 0) → Type 0
Finds read k P = (v : Value) → HasKind k v → Holds (read v) P

abbrev pub Anything : {A : Type 0} → A → Type 0
Anything a = Unit {0}

read-bool : (b : Bool) → truth_of (value.Bool b) ≡ Some b
read-bool b = search (rules, the_lemmas)

read-integer : (n : ℤ) → integer_of (value.Integer n) ≡ Some n
read-integer n = search (rules, the_lemmas)

pub read-string : (s : List ℕ) → string_of (value.String s) ≡ Some s
read-string s = search (rules, the_lemmas)

read-duration : (n : ℤ) → duration_of (value.Duration n) ≡ Some n
read-duration n = search (rules, the_lemmas)

read-moment : (t : DateTimeValue) → moment_of (value.DateTime t) ≡ Some t
read-moment t = search (rules, the_lemmas)

read-zone : (z : TimezoneValue) → timezone_of (value.Timezone z) ≡ Some z
read-zone z = search (rules, the_lemmas)

read-items : (xs : List Value) → items_of (value.Array xs) ≡ Some xs
read-items xs = search (rules, the_lemmas)

pub read-map : (m : List (List ℕ × Value)) → map_of (value.Map m) ≡ Some m
read-map m = search (rules, the_lemmas)

pub finds-bool : Finds truth_of bool Anything
finds-bool v h = (h.0, ap truth_of h.1 ∙ read-bool h.0, tt)

pub integer-is : (v : Value) (h : HasKind integer v) → integer_of v ≡ Some h.0
integer-is v h = ap integer_of h.1 ∙ read-integer h.0

pub string-is : (v : Value) (h : HasKind string v) → string_of v ≡ Some h.0
string-is v h = ap string_of h.1 ∙ read-string h.0

pub finds-integer : Finds integer_of integer Anything
finds-integer v h = (h.0, integer-is v h, tt)

pub finds-string : Finds string_of string Anything
finds-string v h = (h.0, string-is v h, tt)

pub finds-duration : Finds duration_of duration Anything
finds-duration v h = (h.0, ap duration_of h.1 ∙ read-duration h.0, tt)

pub finds-moment : Finds moment_of datetime Anything
finds-moment v h = (h.0, ap moment_of h.1 ∙ read-moment h.0, tt)

pub finds-zone : Finds timezone_of timezone Anything
finds-zone v h = (h.0, ap timezone_of h.1 ∙ read-zone h.0, tt)

pub items-are : (k : Kind) (v : Value) (h : HasKind (array k) v) → items_of v ≡ Some h.0
items-are k v h = ap items_of h.1 ∙ read-items h.0

pub finds-items : (k : Kind) → Finds items_of (array k) (λ xs. Each (λ x. HasKind k x) xs)
finds-items k v h = (h.0, items-are k v h, h.2)

pub finds-value : (k : Kind) → Finds any_value k (λ v. HasKind k v)
finds-value k v h = (v, refl, h)

-- two that were found
pub both-hold : {A B : Type 0} (P : A → Type 0) (Q : B → Type 0) (o : Option A) (p : Option B) → Holds o P → Holds p Q → Holds (both o p) (λ a. P a.0 × Q a.1)
both-hold P Q o p (a, is, h) (b, js, i) =
    ((a, b), ap (λ x. both x p) is ∙ ap (λ y. option_map (λ z. (a, z)) y) js, (h, i))

-- more from what was found
pub then-holds : {A B : Type 0} (P : A → Type 0) (Q : B → Type 0) (o : Option A) (next : A → Option B) → Holds o P → ((a : A) → P a → Holds (next a) Q) → Holds (option_and_then next o) Q
then-holds P Q o next (a, is, h) f =
    let b = f a h in
    (b.0, ap (λ x. option_and_then next x) is ∙ b.1, b.2)

pub mapped-holds : {A B : Type 0} (P : A → Type 0) (Q : B → Type 0) (o : Option A) (f : A → B) → Holds o P → ((a : A) → P a → Q (f a)) → Holds (option_map f o) Q
mapped-holds P Q o f (a, is, h) g = (f a, ap (λ x. option_map f x) is, g a h)

-- exactly these arguments
pub one-holds : {A : Type 0} (P : A → Type 0) (read : Value → Option A) (k : Kind) → Finds read k P → (vs : List Value) → HaveKindsThen (k ∷ []) never vs → Holds (one_of read vs) P
one-holds P read k f [] h = absurd h
one-holds P read k f (v ∷ []) h = f v h.0
one-holds P read k f (v ∷ w ∷ more) h = absurd h.1.0

pub two-hold : {A B : Type 0} (P : A → Type 0) (Q : B → Type 0) (read : Value → Option A) (next : Value → Option B) (j k : Kind) → Finds read j P → Finds next k Q
    → (vs : List Value) → HaveKindsThen (j ∷ k ∷ []) never vs → Holds (two_of read next vs) (λ a. P a.0 × Q a.1)
two-hold P Q read next j k f g [] h = absurd h
two-hold P Q read next j k f g (v ∷ []) h = absurd h.1
two-hold P Q read next j k f g (v ∷ w ∷ []) h = both-hold P Q (read v) (next w) (f v h.0) (g w h.1.0)
two-hold P Q read next j k f g (v ∷ w ∷ u ∷ more) h = absurd h.1.1.0

-- each of some values
pub all-hold : {A : Type 0} (P : A → Type 0) (read : Value → Option A) (k : Kind) → Finds read k P → (vs : List Value) → Each (λ v. HasKind k v) vs → Holds (all_of read vs) (λ xs. Each P xs)
all-hold P read k f [] h = ([], refl, tt)
all-hold P read k f (v ∷ vs) h =
    then-holds P (λ xs. Each P xs) (read v) (λ x. option_map (λ xs. x ∷ xs) (all_of read vs)) (f v h.0) (λ x p.
    mapped-holds (λ xs. Each P xs) (λ xs. Each P xs) (all_of read vs) (λ xs. x ∷ xs) (all-hold P read k f vs h.1) (λ xs q. (p, q)))

-- the result for what was found
pub answered : {A : Type 0} (e : Effect) (R : Value → Type 0) (P : A → Type 0) (o : Option A) (answers : A → Answer) → Holds o P → ((a : A) → P a → ResultIs e R (answers a)) → Yields e R (λ r. r ≡ answer_on o answers)
answered e R P o answers (a, is, h) f r p =
    subst (λ s. ResultIs e R s) (sym (p ∙ ap (λ x. answer_on x answers) is)) (f a h)

-- the result for what may not be found
pub may-answer : {A : Type 0} (R : Value → Type 0) (o : Option A) (answers : A → Answer) → ((a : A) → ResultIs failing R (answers a)) → Yields failing R (λ r. r ≡ answer_on o answers)
may-answer R None answers f r p = subst (λ s. ResultIs failing R s) (sym p) tt
may-answer R (Some a) answers f r p = subst (λ s. ResultIs failing R s) (sym p) (f a)
