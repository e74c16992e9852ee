-- Each row of the tables of operators holds.
use Rattle.std.proofs.Common.{◌≡◌, ℕ, ℤ, pos, Bool, true, false, not, cond, List, [], ◌∷◌, Option, Some, None, option_map, is_some, Ok, Err, inl, inr, refl, sym, subst, int_rem, ◌++◌}
use Rattle.std.specs.Int.{w64, int_wrapping_add, int_wrapping_sub, int_wrapping_mul, int_wrapping_neg}
use Rattle.std.specs.Ordering.{int_eq, is_lt, is_le, is_gt, is_ge}
use Rattle.expr_functions.specs.declared.operator.Operator.{Operator}
use Rattle.expr_functions.specs.declared.operator.Operator.TheVariants.{Add, Subtract, Multiply, Divide, Modulo, Pow, Equal, NotEqual, GreaterThan, GreaterThanOrEqual, LessThan, LessThanOrEqual, In, NotIn, Contains, StartsWith, EndsWith}
use Rattle.expr_functions.specs.declared.operator.UnaryOperator.{UnaryOperator}
use Rattle.expr_functions.specs.declared.operator.UnaryOperator.TheVariants.{Not, Positive, Negative}
use Rattle.expr_error.specs.ErrorKind.{evaluation}
use Rattle.expr_datetime.specs.ShiftedMoments.{moment_later, moment_earlier}
use Rattle.expr_datetime.specs.declared.moment.DateTimeValue.{DateTimeValue}
use Rattle.expr_datetime.specs.declared.zone.TimezoneValue.{TimezoneValue}
use Rattle.expr_moment.specs.Fields.{between}
use Rattle.expr_moment.specs.Zones.{moment_or_refusal}
use Rattle.expr_operators.specs.Operators.{sum_of_layers, difference_of_layers, product_of_layers, remainder_layers, order_of, order_of_layers, are_compared, are_compared_layers, equality, belongs, belongs_layers, containment, containment_layers, begins_with, begins_with_layers, ends_in, ends_in_layers, verdict, truth_or_refusal, operator_answer, unary_answer, unary_answer_layer}
use Rattle.expr_value.specs.Answers.{Answer}
use Rattle.expr_value.specs.Values.{equals}
use Rattle.expr_value.specs.declared.value.Value as value
use Rattle.expr_value.specs.declared.value.Value.{Value, out-Value}
use Rattle.expr_value.specs.declared.value.Value.TheOpen.{Value-F}
use Rattle.expr_schema.specs.Kinds.{Kind, any, never, nil, bool, integer, string, bytes, duration, month, weekday, datetime, timezone, array, map, keyed, nilable, others, HasKind, Each, Effect, total, failing}
use Rattle.expr_kinds.specs.Effects.{ResultIs}
use Rattle.expr_kinds.specs.Causes.{Literals, AreKnown, nothing, content, zero_at, effect_under}
use Rattle.expr_kinds.specs.Tables.{OperatorRow, rows, unary_kind}
use Rattle.expr_kinds.proofs.Causes.{admits-zero}
use Rattle.expr_kinds.proofs.Layers.{Layer, at-layer, at-layers, nil-layer, bool-layer, integer-layer, string-layer, bytes-layer, duration-layer, month-layer, weekday-layer, datetime-layer, timezone-layer, array-layer, keyed-layer, map-layer}

-- an operator returns what a row says
abbrev pub RowHolds : Operator → OperatorRow → Type 0
RowHolds op r = (known : Literals) (x y : Value) → HasKind r.left x → HasKind r.right y → AreKnown known (x ∷ y ∷ []) → ResultIs (effect_under r.cause known) (λ v. HasKind r.gives v) (operator_answer op x y)

-- something is said
abbrev Says : {A : Type 0} → Option A → Type 0
Says {A} o = is_some o ≡ true

said : (o : Option Bool) → Says o → ResultIs total (λ v. HasKind bool v) (truth_or_refusal o)
said (Some b) p = (b, refl)
said None p = absurd (cc p)

said-map : {A B : Type 0} (f : A → B) (o : Option A) → Says o → Says (option_map f o)
said-map f (Some b) p = refl
said-map f None p = p

-- a DateTime, or an error
moved : (o : Option DateTimeValue) → ResultIs failing (λ v. HasKind datetime v) (moment_or_refusal o)
moved None = tt
moved (Some t) = (t, refl)

-- a remainder, unless the right side is zero
remaining : (known : Literals) (x y : Value) → AreKnown known (x ∷ y ∷ []) → (n m : ℤ) → y ≡ value.Integer m → (b : Bool) → int_eq m (pos 0) ≡ b → ResultIs (effect_under (zero_at 1) known) (λ v. HasKind integer v) (cond b (Err evaluation) (Ok (value.Integer n)))
remaining known x y are n m is true none = admits-zero known (x ∷ y ∷ []) are 1 y refl m is none
remaining known x y are n m is false some = (n, refl)

one_duration : (b : Bool) (n : ℤ) → ResultIs failing (λ v. HasKind duration v) (cond b (Ok (value.Duration n)) (Err evaluation))
one_duration true n = (n, refl)
one_duration false n = tt

measured : (t u : DateTimeValue) → ResultIs failing (λ v. HasKind duration v) (between t u)
measured t u = one_duration _ _

-- two layers in place of those of two values
on : (F : Layer → Layer → Answer) (e : Effect) (k : Kind) (x y : Value) (l m : Layer) → out-Value x ≡ l → out-Value y ≡ m → ResultIs e (λ v. HasKind k v) (F l m) → ResultIs e (λ v. HasKind k v) (F (out-Value x) (out-Value y))
on F e k x y l m p q h = at-layers (λ a b. ResultIs e (λ v. HasKind k v) (F a b)) x y l m p q h

speaks : {A : Type 0} (F : Layer → Layer → Option A) (x y : Value) (l m : Layer) → out-Value x ≡ l → out-Value y ≡ m → Says (F l m) → Says (F (out-Value x) (out-Value y))
speaks F x y l m p q h = at-layers (λ a b. Says (F a b)) x y l m p q h

-- sums
add-integers : RowHolds Add (record { left = integer; right = integer; gives = integer; cause = nothing })
unfolding operator_answer
add-integers known x y h j is = on sum_of_layers total integer x y _ _ (integer-layer x h) (integer-layer y j) (int_wrapping_add w64 h.0 j.0, refl)

add-strings : RowHolds Add (record { left = string; right = string; gives = string; cause = nothing })
unfolding operator_answer
add-strings known x y h j is = on sum_of_layers total string x y _ _ (string-layer x h) (string-layer y j) (h.0 ++ j.0, refl)

add-durations : RowHolds Add (record { left = duration; right = duration; gives = duration; cause = nothing })
unfolding operator_answer
add-durations known x y h j is = on sum_of_layers total duration x y _ _ (duration-layer x h) (duration-layer y j) (int_wrapping_add w64 h.0 j.0, refl)

add-to_moment : RowHolds Add (record { left = datetime; right = duration; gives = datetime; cause = content })
unfolding operator_answer
add-to_moment known x y h j is = on sum_of_layers failing datetime x y _ _ (datetime-layer x h) (duration-layer y j) (moved (moment_later h.0 j.0))

add-moment : RowHolds Add (record { left = duration; right = datetime; gives = datetime; cause = content })
unfolding operator_answer
add-moment known x y h j is = on sum_of_layers failing datetime x y _ _ (duration-layer x h) (datetime-layer y j) (moved (moment_later j.0 h.0))

-- differences
subtract-integers : RowHolds Subtract (record { left = integer; right = integer; gives = integer; cause = nothing })
unfolding operator_answer
subtract-integers known x y h j is = on difference_of_layers total integer x y _ _ (integer-layer x h) (integer-layer y j) (int_wrapping_sub w64 h.0 j.0, refl)

subtract-durations : RowHolds Subtract (record { left = duration; right = duration; gives = duration; cause = nothing })
unfolding operator_answer
subtract-durations known x y h j is = on difference_of_layers total duration x y _ _ (duration-layer x h) (duration-layer y j) (int_wrapping_sub w64 h.0 j.0, refl)

subtract-from_moment : RowHolds Subtract (record { left = datetime; right = duration; gives = datetime; cause = content })
unfolding operator_answer
subtract-from_moment known x y h j is = on difference_of_layers failing datetime x y _ _ (datetime-layer x h) (duration-layer y j) (moved (moment_earlier h.0 j.0))

subtract-moments : RowHolds Subtract (record { left = datetime; right = datetime; gives = duration; cause = content })
unfolding operator_answer
subtract-moments known x y h j is = on difference_of_layers failing duration x y _ _ (datetime-layer x h) (datetime-layer y j) (measured h.0 j.0)

-- products and remainders
multiply-integers : RowHolds Multiply (record { left = integer; right = integer; gives = integer; cause = nothing })
unfolding operator_answer
multiply-integers known x y h j is = on product_of_layers total integer x y _ _ (integer-layer x h) (integer-layer y j) (int_wrapping_mul w64 h.0 j.0, refl)

multiply-duration : RowHolds Multiply (record { left = duration; right = integer; gives = duration; cause = nothing })
unfolding operator_answer
multiply-duration known x y h j is = on product_of_layers total duration x y _ _ (duration-layer x h) (integer-layer y j) (int_wrapping_mul w64 h.0 j.0, refl)

multiply-by_duration : RowHolds Multiply (record { left = integer; right = duration; gives = duration; cause = nothing })
unfolding operator_answer
multiply-by_duration known x y h j is = on product_of_layers total duration x y _ _ (integer-layer x h) (duration-layer y j) (int_wrapping_mul w64 h.0 j.0, refl)

modulo-integers : RowHolds Modulo (record { left = integer; right = integer; gives = integer; cause = zero_at 1 })
unfolding operator_answer
modulo-integers known x y h j is =
    on remainder_layers (effect_under (zero_at 1) known) integer x y _ _ (integer-layer x h) (integer-layer y j) (remaining known x y is (int_rem h.0 j.0) j.0 j.1 (int_eq j.0 (pos 0)) refl)

-- what a test of two values says of those of two kinds
abbrev Speaks : {A : Type 0} → (Value → Value → Option A) → Kind → Kind → Type 0
Speaks test a b = (x y : Value) → HasKind a x → HasKind b y → Says (test x y)

-- an operator that returns a boolean
abbrev Tells : Operator → Kind → Kind → Type 0
Tells op a b = (known : Literals) (x y : Value) → HasKind a x → HasKind b y → AreKnown known (x ∷ y ∷ []) → ResultIs total (λ v. HasKind bool v) (operator_answer op x y)

module _ (a b : Kind) where
  equal-by : Speaks equality a b → Tells Equal a b
  unfolding operator_answer verdict
  equal-by q known x y h j is = said (equality x y) (q x y h j)

  unequal-by : Speaks equality a b → Tells NotEqual a b
  unfolding operator_answer verdict
  unequal-by q known x y h j is = said (option_map not (equality x y)) (said-map not (equality x y) (q x y h j))

  greater-by : Speaks order_of a b → Tells GreaterThan a b
  unfolding operator_answer verdict
  greater-by q known x y h j is = said (option_map is_gt (order_of x y)) (said-map is_gt (order_of x y) (q x y h j))

  no_less-by : Speaks order_of a b → Tells GreaterThanOrEqual a b
  unfolding operator_answer verdict
  no_less-by q known x y h j is = said (option_map is_ge (order_of x y)) (said-map is_ge (order_of x y) (q x y h j))

  less-by : Speaks order_of a b → Tells LessThan a b
  unfolding operator_answer verdict
  less-by q known x y h j is = said (option_map is_lt (order_of x y)) (said-map is_lt (order_of x y) (q x y h j))

  no_greater-by : Speaks order_of a b → Tells LessThanOrEqual a b
  unfolding operator_answer verdict
  no_greater-by q known x y h j is = said (option_map is_le (order_of x y)) (said-map is_le (order_of x y) (q x y h j))

  in-by : Speaks belongs a b → Tells In a b
  unfolding operator_answer verdict
  in-by q known x y h j is = said (belongs x y) (q x y h j)

  not_in-by : Speaks belongs a b → Tells NotIn a b
  unfolding operator_answer verdict
  not_in-by q known x y h j is = said (option_map not (belongs x y)) (said-map not (belongs x y) (q x y h j))

  contains-by : Speaks containment a b → Tells Contains a b
  unfolding operator_answer verdict
  contains-by q known x y h j is = said (containment x y) (q x y h j)

  starts_with-by : Speaks begins_with a b → Tells StartsWith a b
  unfolding operator_answer verdict
  starts_with-by q known x y h j is = said (begins_with x y) (q x y h j)

  ends_with-by : Speaks ends_in a b → Tells EndsWith a b
  unfolding operator_answer verdict
  ends_with-by q known x y h j is = said (ends_in x y) (q x y h j)

-- orders
order-integers : Speaks order_of integer integer
order-integers x y h j = speaks order_of_layers x y _ _ (integer-layer x h) (integer-layer y j) refl

order-strings : Speaks order_of string string
order-strings x y h j = speaks order_of_layers x y _ _ (string-layer x h) (string-layer y j) refl

order-durations : Speaks order_of duration duration
order-durations x y h j = speaks order_of_layers x y _ _ (duration-layer x h) (duration-layer y j) refl

order-moments : Speaks order_of datetime datetime
order-moments x y h j = speaks order_of_layers x y _ _ (datetime-layer x h) (datetime-layer y j) refl

-- equality
compared : (x y : Value) → are_compared x y ≡ true → Says (equality x y)
compared x y p = subst (λ b. Says (cond b (Some (equals x y)) None)) (sym p) refl

-- a layer that may be compared with each other
abbrev IsFree : Layer → Type 0
IsFree l = (m : Layer) → (are_compared_layers l m ≡ true) × (are_compared_layers m l ≡ true)

free-nil : IsFree Value-F.Nil
free-nil (Value-F.Integer n) = (refl, refl)
free-nil m = (refl, refl)

free-bool : (b : Bool) → IsFree (Value-F.Bool b)
free-bool b (Value-F.Integer n) = (refl, refl)
free-bool b m = (refl, refl)

free-string : (s : List ℕ) → IsFree (Value-F.String s)
free-string s (Value-F.Integer n) = (refl, refl)
free-string s m = (refl, refl)

free-duration : (n : ℤ) → IsFree (Value-F.Duration n)
free-duration n (Value-F.Integer m) = (refl, refl)
free-duration n m = (refl, refl)

free-bytes : (bs : List ℕ) → IsFree (Value-F.Bytes bs)
free-bytes bs (Value-F.Integer m) = (refl, refl)
free-bytes bs m = (refl, refl)

free-moment : (t : DateTimeValue) → IsFree (Value-F.DateTime t)
free-moment t (Value-F.Integer m) = (refl, refl)
free-moment t m = (refl, refl)

free-zone : (z : TimezoneValue) → IsFree (Value-F.Timezone z)
free-zone z (Value-F.Integer m) = (refl, refl)
free-zone z m = (refl, refl)

free-array : (xs : List Value) → IsFree (Value-F.Array xs)
free-array xs (Value-F.Integer m) = (refl, refl)
free-array xs m = (refl, refl)

-- the values of a kind have such layers
abbrev AreFree : Kind → Type 0
AreFree k = (x : Value) → HasKind k x → (l : Layer) × (out-Value x ≡ l) × IsFree l

nils : AreFree nil
nils x h = (Value-F.Nil, nil-layer x h, free-nil)

or_nil : (k : Kind) → AreFree k → AreFree (nilable k)
or_nil k f x (inl h) = nils x h
or_nil k f x (inr h) = f x h

bools : AreFree bool
bools x h = (Value-F.Bool h.0, bool-layer x h, free-bool h.0)

strings : AreFree string
strings x h = (Value-F.String h.0, string-layer x h, free-string h.0)

durations : AreFree duration
durations x h = (Value-F.Duration h.0, duration-layer x h, free-duration h.0)

byte_lists : AreFree bytes
byte_lists x h = (Value-F.Bytes h.0, bytes-layer x h, free-bytes h.0)

moments : AreFree datetime
moments x h = (Value-F.DateTime h.0, datetime-layer x h, free-moment h.0)

zones : AreFree timezone
zones x h = (Value-F.Timezone h.0, timezone-layer x h, free-zone h.0)

arrays : AreFree (array any)
arrays x h = (Value-F.Array h.0, array-layer any x h, free-array h.0)

free-left : (k : Kind) → AreFree k → Speaks equality k any
free-left k f x y h j =
    let l = f x h in
    compared x y (at-layer (λ a. are_compared_layers a (out-Value y) ≡ true) x l.0 l.1 (l.2 (out-Value y)).0)

free-right : (k : Kind) → AreFree k → Speaks equality any k
free-right k f x y h j =
    let l = f y j in
    compared x y (at-layer (λ a. are_compared_layers (out-Value x) a ≡ true) y l.0 l.1 (l.2 (out-Value x)).1)

integer-compared : Speaks equality (nilable integer) (nilable integer)
integer-compared x y (inl h) j = free-left nil nils x y h tt
integer-compared x y (inr h) (inl j) = free-right nil nils x y tt j
integer-compared x y (inr h) (inr j) = compared x y (at-layers (λ a b. are_compared_layers a b ≡ true) x y _ _ (integer-layer x h) (integer-layer y j) refl)

month-compared : Speaks equality (nilable month) (nilable month)
month-compared x y (inl h) j = free-left nil nils x y h tt
month-compared x y (inr h) (inl j) = free-right nil nils x y tt j
month-compared x y (inr h) (inr j) = compared x y (at-layers (λ a b. are_compared_layers a b ≡ true) x y _ _ (month-layer x h) (month-layer y j) refl)

weekday-compared : Speaks equality (nilable weekday) (nilable weekday)
weekday-compared x y (inl h) j = free-left nil nils x y h tt
weekday-compared x y (inr h) (inl j) = free-right nil nils x y tt j
weekday-compared x y (inr h) (inr j) = compared x y (at-layers (λ a b. are_compared_layers a b ≡ true) x y _ _ (weekday-layer x h) (weekday-layer y j) refl)

map-compared : Speaks equality (nilable (map (others any))) (nilable (map (others any)))
map-compared x y (inl h) j = free-left nil nils x y h tt
map-compared x y (inr h) (inl j) = free-right nil nils x y tt j
map-compared x y (inr h) (inr j) = compared x y (at-layers (λ a b. are_compared_layers a b ≡ true) x y _ _ (map-layer h.0 x h.1) (map-layer j.0 y j.1) refl)

keyed-compared : Speaks equality (nilable (keyed any)) (nilable (keyed any))
keyed-compared x y (inl h) j = free-left nil nils x y h tt
keyed-compared x y (inr h) (inl j) = free-right nil nils x y tt j
keyed-compared x y (inr h) (inr j) = compared x y (at-layers (λ a b. are_compared_layers a b ≡ true) x y _ _ (keyed-layer any x h) (keyed-layer any y j) refl)

-- membership
in_array : Speaks belongs any (array any)
in_array x y h j = at-layer (λ b. Says (belongs_layers x (out-Value x) b)) y _ (array-layer any y j) (of_array (out-Value x))
  where
    of_array : (l : Layer) → Says (belongs_layers x l (Value-F.Array j.0))
    of_array (Value-F.String s) = refl
    of_array l = refl

in_keyed : Speaks belongs any (keyed any)
in_keyed x y h j = at-layer (λ b. Says (belongs_layers x (out-Value x) b)) y _ (keyed-layer any y j) (of_keyed (out-Value x))
  where
    of_keyed : (l : Layer) → Says (belongs_layers x l (Value-F.KeyedMap j.0))
    of_keyed (Value-F.String s) = refl
    of_keyed l = refl

in_map : Speaks belongs string (map (others any))
in_map x y h j = speaks (belongs_layers x) x y _ _ (string-layer x h) (map-layer j.0 y j.1) refl

-- containment
string_contains : Speaks containment string string
string_contains x y h j = speaks (λ a b. containment_layers a y b) x y _ _ (string-layer x h) (string-layer y j) refl

array_contains : Speaks containment (array any) any
array_contains x y h j = at-layer (λ a. Says (containment_layers a y (out-Value y))) x _ (array-layer any x h) (of_array (out-Value y))
  where
    of_array : (l : Layer) → Says (containment_layers (Value-F.Array h.0) y l)
    of_array (Value-F.String s) = refl
    of_array l = refl

map_contains : Speaks containment (map (others any)) string
map_contains x y h j = speaks (λ a b. containment_layers a y b) x y _ _ (map-layer h.0 x h.1) (string-layer y j) refl

starts : Speaks begins_with string string
starts x y h j = speaks begins_with_layers x y _ _ (string-layer x h) (string-layer y j) refl

ends : Speaks ends_in string string
ends x y h j = speaks ends_in_layers x y _ _ (string-layer x h) (string-layer y j) refl

-- values of unknown kinds
may-tell : (o : Option Bool) → ResultIs failing (λ v. HasKind bool v) (truth_or_refusal o)
may-tell None = tt
may-tell (Some b) = (b, refl)

abbrev MayTell : Operator → Type 0
MayTell op = RowHolds op (record { left = any; right = any; gives = bool; cause = content })

equal-may : MayTell Equal
unfolding operator_answer verdict
equal-may known x y h j is = may-tell (equality x y)

unequal-may : MayTell NotEqual
unfolding operator_answer verdict
unequal-may known x y h j is = may-tell (option_map not (equality x y))

greater-may : MayTell GreaterThan
unfolding operator_answer verdict
greater-may known x y h j is = may-tell (option_map is_gt (order_of x y))

no_less-may : MayTell GreaterThanOrEqual
unfolding operator_answer verdict
no_less-may known x y h j is = may-tell (option_map is_ge (order_of x y))

less-may : MayTell LessThan
unfolding operator_answer verdict
less-may known x y h j is = may-tell (option_map is_lt (order_of x y))

no_greater-may : MayTell LessThanOrEqual
unfolding operator_answer verdict
no_greater-may known x y h j is = may-tell (option_map is_le (order_of x y))

in-may : MayTell In
unfolding operator_answer verdict
in-may known x y h j is = may-tell (belongs x y)

not_in-may : MayTell NotIn
unfolding operator_answer verdict
not_in-may known x y h j is = may-tell (option_map not (belongs x y))

contains-may : MayTell Contains
unfolding operator_answer verdict
contains-may known x y h j is = may-tell (containment x y)

starts-may : MayTell StartsWith
unfolding operator_answer verdict
starts-may known x y h j is = may-tell (begins_with x y)

ends-may : MayTell EndsWith
unfolding operator_answer verdict
ends-may known x y h j is = may-tell (ends_in x y)

some-remainder : (b : Bool) (n : ℤ) → ResultIs failing (λ v. HasKind integer v) (cond b (Err evaluation) (Ok (value.Integer n)))
some-remainder true n = tt
some-remainder false n = (n, refl)

remainder-may : (l m : Layer) → ResultIs failing (λ v. HasKind integer v) (remainder_layers l m)
remainder-may (Value-F.Integer a) (Value-F.Integer b) = some-remainder (int_eq b (pos 0)) (int_rem a b)
remainder-may l m = tt

modulo-may : RowHolds Modulo (record { left = any; right = any; gives = integer; cause = content })
unfolding operator_answer
modulo-may known x y h j is = remainder-may (out-Value x) (out-Value y)

-- quotients and powers
no-quotient : RowHolds Divide (record { left = any; right = any; gives = never; cause = content })
unfolding operator_answer verdict
no-quotient known x y h j is = tt

no-power : RowHolds Pow (record { left = any; right = any; gives = never; cause = content })
unfolding operator_answer verdict
no-power known x y h j is = tt

-- each row of each table holds
pub rows-hold : (op : Operator) → Each (RowHolds op) (rows op)
unfolding rows
rows-hold Add = (add-integers, (add-strings, (add-durations, (add-to_moment, (add-moment, tt)))))
rows-hold Subtract = (subtract-integers, (subtract-durations, (subtract-from_moment, (subtract-moments, tt))))
rows-hold Multiply = (multiply-integers, (multiply-duration, (multiply-by_duration, tt)))
rows-hold Modulo = (modulo-integers, (modulo-may, tt))
rows-hold Equal = (
  equal-by nil any (free-left nil nils),
  (
    equal-by any nil (free-right nil nils),
    (
      equal-by (nilable bool) any (free-left (nilable bool) (or_nil bool bools)),
      (
        equal-by any (nilable bool) (free-right (nilable bool) (or_nil bool bools)),
        (
          equal-by (nilable string) any (free-left (nilable string) (or_nil string strings)),
          (
            equal-by any (nilable string) (free-right (nilable string) (or_nil string strings)),
            (
              equal-by (nilable bytes) any (free-left (nilable bytes) (or_nil bytes byte_lists)),
              (
                equal-by any (nilable bytes) (free-right (nilable bytes) (or_nil bytes byte_lists)),
                (
                  equal-by (nilable duration) any (free-left (nilable duration) (or_nil duration durations)),
                  (
                    equal-by any (nilable duration) (free-right (nilable duration) (or_nil duration durations)),
                    (
                      equal-by (nilable datetime) any (free-left (nilable datetime) (or_nil datetime moments)),
                      (
                        equal-by any (nilable datetime) (free-right (nilable datetime) (or_nil datetime moments)),
                        (
                          equal-by (nilable timezone) any (free-left (nilable timezone) (or_nil timezone zones)),
                          (
                            equal-by any (nilable timezone) (free-right (nilable timezone) (or_nil timezone zones)),
                            (
                              equal-by (nilable (array any)) any (free-left (nilable (array any)) (or_nil (array any) arrays)),
                              (
                                equal-by any (nilable (array any)) (free-right (nilable (array any)) (or_nil (array any) arrays)),
                                (
                                  equal-by (nilable integer) (nilable integer) integer-compared,
                                  (
                                    equal-by (nilable month) (nilable month) month-compared,
                                    (
                                      equal-by (nilable weekday) (nilable weekday) weekday-compared,
                                      (
                                        equal-by (nilable (map (others any))) (nilable (map (others any))) map-compared,
                                        (equal-by (nilable (keyed any)) (nilable (keyed any)) keyed-compared, (equal-may, tt)),
                                      ),
                                    ),
                                  ),
                                ),
                              ),
                            ),
                          ),
                        ),
                      ),
                    ),
                  ),
                ),
              ),
            ),
          ),
        ),
      ),
    ),
  ),
)
rows-hold NotEqual = (
  unequal-by nil any (free-left nil nils),
  (
    unequal-by any nil (free-right nil nils),
    (
      unequal-by (nilable bool) any (free-left (nilable bool) (or_nil bool bools)),
      (
        unequal-by any (nilable bool) (free-right (nilable bool) (or_nil bool bools)),
        (
          unequal-by (nilable string) any (free-left (nilable string) (or_nil string strings)),
          (
            unequal-by any (nilable string) (free-right (nilable string) (or_nil string strings)),
            (
              unequal-by (nilable bytes) any (free-left (nilable bytes) (or_nil bytes byte_lists)),
              (
                unequal-by any (nilable bytes) (free-right (nilable bytes) (or_nil bytes byte_lists)),
                (
                  unequal-by (nilable duration) any (free-left (nilable duration) (or_nil duration durations)),
                  (
                    unequal-by any (nilable duration) (free-right (nilable duration) (or_nil duration durations)),
                    (
                      unequal-by (nilable datetime) any (free-left (nilable datetime) (or_nil datetime moments)),
                      (
                        unequal-by any (nilable datetime) (free-right (nilable datetime) (or_nil datetime moments)),
                        (
                          unequal-by (nilable timezone) any (free-left (nilable timezone) (or_nil timezone zones)),
                          (
                            unequal-by any (nilable timezone) (free-right (nilable timezone) (or_nil timezone zones)),
                            (
                              unequal-by (nilable (array any)) any (free-left (nilable (array any)) (or_nil (array any) arrays)),
                              (
                                unequal-by any (nilable (array any)) (free-right (nilable (array any)) (or_nil (array any) arrays)),
                                (
                                  unequal-by (nilable integer) (nilable integer) integer-compared,
                                  (
                                    unequal-by (nilable month) (nilable month) month-compared,
                                    (
                                      unequal-by (nilable weekday) (nilable weekday) weekday-compared,
                                      (
                                        unequal-by (nilable (map (others any))) (nilable (map (others any))) map-compared,
                                        (unequal-by (nilable (keyed any)) (nilable (keyed any)) keyed-compared, (unequal-may, tt)),
                                      ),
                                    ),
                                  ),
                                ),
                              ),
                            ),
                          ),
                        ),
                      ),
                    ),
                  ),
                ),
              ),
            ),
          ),
        ),
      ),
    ),
  ),
)
rows-hold GreaterThan = (greater-by integer integer order-integers, (greater-by string string order-strings, (greater-by duration duration order-durations, (greater-by datetime datetime order-moments, (greater-may, tt)))))
rows-hold GreaterThanOrEqual = (no_less-by integer integer order-integers, (no_less-by string string order-strings, (no_less-by duration duration order-durations, (no_less-by datetime datetime order-moments, (no_less-may, tt)))))
rows-hold LessThan = (less-by integer integer order-integers, (less-by string string order-strings, (less-by duration duration order-durations, (less-by datetime datetime order-moments, (less-may, tt)))))
rows-hold LessThanOrEqual = (no_greater-by integer integer order-integers, (no_greater-by string string order-strings, (no_greater-by duration duration order-durations, (no_greater-by datetime datetime order-moments, (no_greater-may, tt)))))
rows-hold In = (in-by any (array any) in_array, (in-by string (map (others any)) in_map, (in-by any (keyed any) in_keyed, (in-may, tt))))
rows-hold NotIn = (not_in-by any (array any) in_array, (not_in-by string (map (others any)) in_map, (not_in-by any (keyed any) in_keyed, (not_in-may, tt))))
rows-hold Contains = (contains-by string string string_contains, (contains-by (array any) any array_contains, (contains-by (map (others any)) string map_contains, (contains-may, tt))))
rows-hold StartsWith = (starts_with-by string string starts, (starts-may, tt))
rows-hold EndsWith = (ends_with-by string string ends, (ends-may, tt))
rows-hold Divide = (no-quotient, tt)
rows-hold Pow = (no-power, tt)
rows-hold op = tt

-- what an operator before its operand gives
pub unary-holds : (op : UnaryOperator) (v : Value) → HasKind (unary_kind op) v → ResultIs total (λ w. HasKind (unary_kind op) w) (unary_answer op v)
unary-holds Not v h = at-layer (λ l. ResultIs total (λ w. HasKind bool w) (unary_answer_layer Not l)) v _ (bool-layer v h) (not h.0, refl)
unary-holds Positive v h = at-layer (λ l. ResultIs total (λ w. HasKind integer w) (unary_answer_layer Positive l)) v _ (integer-layer v h) (h.0, refl)
unary-holds Negative v h = at-layer (λ l. ResultIs total (λ w. HasKind integer w) (unary_answer_layer Negative l)) v _ (integer-layer v h) (int_wrapping_neg w64 h.0, refl)
