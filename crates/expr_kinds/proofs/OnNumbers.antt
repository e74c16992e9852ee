-- Each overload of the built-ins that convert values, and of those on numbers and bits, holds.
use Rattle.std.proofs.Common.{◌≡◌, ℕ, ◌==◌, ℤ, pos, negsuc, false, cond, List, [], ◌∷◌, ◌++◌, length, None, option_map, Ok, Err, refl, sym, ap, ◌∙◌, subst, inl, inr, Bool, true, Option, Some}
use Rattle.std.specs.Int.{int_max, int_min}
use Rattle.expr_arguments.specs.Arguments.{all_of, answer_on, any_value, both, one_integer, one_of, two_integers}
use Rattle.expr_builtins.proofs.Opening.{flat_items-Array, flat_items-other}
use Rattle.expr_builtins.specs.Bits.{BitCalled, shifted_left, shifted_right, shifted_unsigned, shift_by_count, of_count}
use Rattle.expr_builtins.specs.Conversions.{ConversionCalled, IntLayer, ReadsInteger, IntOne}
use Rattle.expr_builtins.specs.Nested.{all_flat_items, flat_items}
use Rattle.expr_builtins.specs.Numbers.{NumberCalled, choice_among, choice_of}
use Rattle.expr_error.specs.ErrorKind.{evaluation}
use Rattle.expr_functions.specs.declared.functions.BitCall.{BitCall}
use Rattle.expr_functions.specs.declared.functions.BitCall.TheVariants as bit
use Rattle.expr_functions.specs.declared.functions.ConversionCall.{ConversionCall}
use Rattle.expr_functions.specs.declared.functions.ConversionCall.TheVariants as conversion
use Rattle.expr_functions.specs.declared.functions.NumberCall.{NumberCall}
use Rattle.expr_functions.specs.declared.functions.NumberCall.TheVariants as number
use Rattle.expr_value.specs.Values.{integer_of}
use Rattle.expr_value.specs.declared.value.Value as value
use Rattle.expr_value.specs.declared.value.Value.{Value, out-Value, the_lemmas}
use Rattle.expr_value.specs.declared.value.Value.TheOpen.{Value-F}
use Rattle.expr_kinds.specs.Causes.{Literals, AreKnown, effect_under, negative_at}
use Rattle.expr_schema.specs.Kinds.{any, never, integer, string, array, nilable, Each, total, failing}
use Rattle.expr_kinds.specs.Effects.{ResultIs, Yields}
use Rattle.expr_kinds.specs.Overloads.{HaveKindsThen, on_bits, on_conversions, on_numbers}
use Rattle.expr_kinds.proofs.Causes.{admits-negative}
use Rattle.expr_kinds.proofs.Found.{Anything, Holds, finds-integer, integer-is, finds-value, all-hold, both-hold, mapped-holds, one-holds, then-holds, two-hold, answered, may-answer}
use Rattle.expr_kinds.proofs.Held.{Of, OverloadHolds, exactly_one, exactly_two}
use Rattle.expr_kinds.proofs.Layers.{Layer, at-layer, integer-layer, string-layer}
use Rattle.expr_kinds.proofs.OnCollections.{no-items}
use Rattle.expr_kinds.proofs.Lists.{Each-append, Each-weaker, suc-not-zero}

-- conversions
int-integer : (vs : List Value) → HaveKindsThen (integer ∷ []) never vs → Yields total (Of integer) (ConversionCalled conversion.Int vs)
int-integer =
    exactly_one integer (λ us. Yields total (Of integer) (ConversionCalled conversion.Int us)) (λ v h.
    at-layer (λ l. Yields total (Of integer) (IntLayer l)) v _ (integer-layer v h) (λ a is. subst (λ r. ResultIs total (Of integer) r) (sym is) (h.0, refl)))

reads-integer : (s : List ℕ) → Yields failing (Of integer) (ReadsInteger s)
reads-integer s (Ok v) p = (_, p.1)
reads-integer s (Err f) p = tt

int-string : (vs : List Value) → HaveKindsThen (string ∷ []) never vs → Yields failing (Of integer) (ConversionCalled conversion.Int vs)
int-string =
    exactly_one string (λ us. Yields failing (Of integer) (ConversionCalled conversion.Int us)) (λ v h.
    at-layer (λ l. Yields failing (Of integer) (IntLayer l)) v _ (string-layer v h) (reads-integer h.0))

one-value : (vs : List Value) → HaveKindsThen (any ∷ []) never vs → Holds (one_of any_value vs) (Of any)
one-value = one-holds (Of any) any_value any (finds-value any)

may-int_layer : (l : Layer) → Yields failing (Of integer) (IntLayer l)
may-int_layer (Value-F.Integer n) a is = subst (λ r. ResultIs failing (Of integer) r) (sym is) (n, refl)
may-int_layer (Value-F.String s) a p = reads-integer s a p
may-int_layer l a is = subst (λ r. ResultIs failing (Of integer) r) (sym is) tt

may-int : (o : Option Value) → Yields failing (Of integer) (IntOne o)
may-int None a is = subst (λ r. ResultIs failing (Of integer) r) (sym is) tt
may-int (Some v) a p = may-int_layer (out-Value v) a p

pub conversions-hold : (c : ConversionCall) → Each (OverloadHolds (ConversionCalled c)) (on_conversions c)
conversions-hold conversion.Int = (λ known vs h is. int-integer vs h, (λ known vs h is. int-string vs h, (λ known vs h is. may-int (one_of any_value vs), tt)))
conversions-hold conversion.String = (λ known vs h is. answered total (Of string) _ (one_of any_value vs) _ (one-value vs h) (λ v p. (_, refl)), tt)
conversions-hold conversion.Type = (λ known vs h is. answered total (Of string) _ (one_of any_value vs) _ (one-value vs h) (λ v p. (_, refl)), tt)

-- integers, and arrays of integers
one-int : (vs : List Value) → HaveKindsThen (integer ∷ []) never vs → Holds (one_integer vs) Anything
one-int = one-holds Anything integer_of integer finds-integer

two-ints : (vs : List Value) → HaveKindsThen (integer ∷ integer ∷ []) never vs → Holds (two_integers vs) (λ a. Anything a.0 × Anything a.1)
two-ints = two-hold Anything Anything integer_of integer_of integer integer finds-integer finds-integer

flat-integer : (v : Value) → Of integer v → flat_items v ≡ v ∷ []
flat-integer v h = flat_items-other v (no-items integer refl v h)

-- what a value opens to are integers
abbrev OpensToIntegers : Value → Type 0
OpensToIntegers v = Each (Of integer) (flat_items v)

opens-integer : (v : Value) → Of integer v → OpensToIntegers v
opens-integer v h = subst (λ xs. Each (Of integer) xs) (sym (flat-integer v h)) (h, tt)

all-open : (vs : List Value) → Each OpensToIntegers vs → Each (Of integer) (all_flat_items vs)
all-open [] p = tt
all-open (v ∷ vs) p = Each-append (Of integer) (flat_items v) (all_flat_items vs) p.0 (all-open vs p.1)

opens-array : (v : Value) → Of (array integer) v → OpensToIntegers v
opens-array v (xs, is, each) =
    subst (λ ys. Each (Of integer) ys) (sym (ap flat_items is ∙ flat_items-Array xs)) (all-open xs (Each-weaker (Of integer) OpensToIntegers opens-integer xs each))

-- there is an item
abbrev IsThere : {X : Type 0} → List X → Type 0
IsThere [] = ⊥
IsThere (x ∷ xs) = Unit {0}

there-first : {X : Type 0} (xs ys : List X) → IsThere xs → IsThere (xs ++ ys)
there-first [] ys p = absurd p
there-first (x ∷ xs) ys p = tt

there-later : {X : Type 0} (xs ys : List X) → IsThere ys → IsThere (xs ++ ys)
there-later [] ys p = p
there-later (x ∷ xs) ys p = tt

integers-there : (vs : List Value) → Each (Of integer) vs → IsThere vs → Holds (all_of integer_of vs) IsThere
integers-there [] p q = absurd q
integers-there (v ∷ vs) p q =
    then-holds Anything IsThere (integer_of v) (λ x. option_map (λ xs. x ∷ xs) (all_of integer_of vs)) (finds-integer v p.0) (λ x u.
    mapped-holds (Each Anything) IsThere (all_of integer_of vs) (λ xs. x ∷ xs) (all-hold Anything integer_of integer finds-integer vs p.1) (λ xs w. tt))

chosen-integer : (choice : ℤ → ℤ → ℤ) (ns : List ℤ) → IsThere ns → Of integer (choice_of choice ns)
chosen-integer choice [] p = absurd p
chosen-integer choice (n ∷ ns) p = (_, refl)

chosen-or_nil : (choice : ℤ → ℤ → ℤ) (ns : List ℤ) → Of (nilable integer) (choice_of choice ns)
chosen-or_nil choice [] = inl refl
chosen-or_nil choice (n ∷ ns) = inr (_, refl)

module _ (choice : ℤ → ℤ → ℤ) (v : Value) (vs : List Value) (opens : Each OpensToIntegers (v ∷ vs)) where
  -- with at least one argument
  not_alone : (R : Value → Type 0) → Yields total R (λ r. r ≡ answer_on (all_of integer_of (all_flat_items (v ∷ vs))) (λ ns. Ok (choice_of choice ns))) → Yields total R (λ r. r ≡ choice_among choice (v ∷ vs))
  not_alone R h =
      subst (λ b. Yields total R (λ r. r ≡ cond b (Err evaluation) (answer_on (all_of integer_of (all_flat_items (v ∷ vs))) (λ ns. Ok (choice_of choice ns))))) (sym (suc-not-zero (length vs))) h

  extreme : IsThere (all_flat_items (v ∷ vs)) → Yields total (Of integer) (λ r. r ≡ choice_among choice (v ∷ vs))
  extreme there =
      not_alone (Of integer) (answered total (Of integer) IsThere (all_of integer_of (all_flat_items (v ∷ vs))) _ (integers-there (all_flat_items (v ∷ vs)) (all-open (v ∷ vs) opens) there) (λ ns p. chosen-integer choice ns p))

  extreme-or_nil : Yields total (Of (nilable integer)) (λ r. r ≡ choice_among choice (v ∷ vs))
  extreme-or_nil =
      not_alone (Of (nilable integer)) (
      answered total (Of (nilable integer)) (Each Anything) (all_of integer_of (all_flat_items (v ∷ vs))) _ (all-hold Anything integer_of integer finds-integer (all_flat_items (v ∷ vs)) (all-open (v ∷ vs) opens)) (λ ns p. chosen-or_nil choice ns))

module _ (choice : ℤ → ℤ → ℤ) where
  first-there : (v : Value) (vs : List Value) → Of integer v → IsThere (all_flat_items (v ∷ vs))
  first-there v vs h = subst (λ xs. IsThere (xs ++ all_flat_items vs)) (sym (flat-integer v h)) tt

  of-integers : (vs : List Value) → HaveKindsThen (integer ∷ []) integer vs → Yields total (Of integer) (λ r. r ≡ choice_among choice vs)
  of-integers [] h = absurd h
  of-integers (v ∷ vs) h = extreme choice v vs (opens-integer v h.0, Each-weaker (Of integer) OpensToIntegers opens-integer vs h.1) (first-there v vs h.0)

  of-integer_and_arrays : (vs : List Value) → HaveKindsThen (integer ∷ []) (array integer) vs → Yields total (Of integer) (λ r. r ≡ choice_among choice vs)
  of-integer_and_arrays [] h = absurd h
  of-integer_and_arrays (v ∷ vs) h = extreme choice v vs (opens-integer v h.0, Each-weaker (Of (array integer)) OpensToIntegers opens-array vs h.1) (first-there v vs h.0)

  of-array_and_integers : (vs : List Value) → HaveKindsThen (array integer ∷ integer ∷ []) integer vs → Yields total (Of integer) (λ r. r ≡ choice_among choice vs)
  of-array_and_integers [] h = absurd h
  of-array_and_integers (v ∷ []) h = absurd h.1
  of-array_and_integers (v ∷ w ∷ vs) h =
      extreme choice v (w ∷ vs) (opens-array v h.0, (opens-integer w h.1.0, Each-weaker (Of integer) OpensToIntegers opens-integer vs h.1.1))
      (there-later (flat_items v) (all_flat_items (w ∷ vs)) (first-there w vs h.1.0))

  of-arrays : (vs : List Value) → HaveKindsThen (array integer ∷ []) (array integer) vs → Yields total (Of (nilable integer)) (λ r. r ≡ choice_among choice vs)
  of-arrays [] h = absurd h
  of-arrays (v ∷ vs) h = extreme-or_nil choice v vs (opens-array v h.0, Each-weaker (Of (array integer)) OpensToIntegers opens-array vs h.1)

may-choose : (choice : ℤ → ℤ → ℤ) (b : Bool) (o : Option (List ℤ)) → ResultIs failing (Of (nilable integer)) (cond b (Err evaluation) (answer_on o (λ ns. Ok (choice_of choice ns))))
may-choose choice true o = tt
may-choose choice false None = tt
may-choose choice false (Some ns) = chosen-or_nil choice ns

may-extreme : (choice : ℤ → ℤ → ℤ) (vs : List Value) → Yields failing (Of (nilable integer)) (λ r. r ≡ choice_among choice vs)
may-extreme choice vs r p = subst (λ s. ResultIs failing (Of (nilable integer)) s) (sym p) (may-choose choice (length vs == 0) (all_of integer_of (all_flat_items vs)))

fails : Yields failing (Of never) (λ r. r ≡ Err evaluation)
fails r is = subst (λ a. ResultIs failing (Of never) a) (sym is) tt

pub numbers-hold : (c : NumberCall) → Each (OverloadHolds (NumberCalled c)) (on_numbers c)
numbers-hold number.Abs = (λ known vs h is. answered total (Of integer) _ (one_integer vs) _ (one-int vs h) (λ n p. (_, refl)), (λ known vs h is. may-answer (Of integer) (one_integer vs) _ (λ n. (_, refl)), tt))
numbers-hold number.Max =
    (λ known vs h is. of-integers int_max vs h, (λ known vs h is. of-integer_and_arrays int_max vs h, (λ known vs h is. of-array_and_integers int_max vs h, (λ known vs h is. of-arrays int_max vs h, (λ known vs h is. may-extreme int_max vs, tt)))))
numbers-hold number.Min =
    (λ known vs h is. of-integers int_min vs h, (λ known vs h is. of-integer_and_arrays int_min vs h, (λ known vs h is. of-array_and_integers int_min vs h, (λ known vs h is. of-arrays int_min vs h, (λ known vs h is. may-extreme int_min vs, tt)))))
numbers-hold number.Float = (λ known vs h is. fails, tt)
numbers-hold number.Mean = (λ known vs h is. fails, tt)
numbers-hold number.Median = (λ known vs h is. fails, tt)
numbers-hold number.Ceil = (λ known vs h is. fails, tt)
numbers-hold number.Floor = (λ known vs h is. fails, tt)
numbers-hold number.Round = (λ known vs h is. fails, tt)

-- shifts
module _ (known : Literals) (shifted : ℤ → ℕ → ℤ) where
  shift-by : (v w : Value) → AreKnown known (v ∷ w ∷ []) → (a n : ℤ) → w ≡ value.Integer n → ResultIs (effect_under (negative_at 1) known) (Of integer) (shift_by_count (shifted a) n)
  shift-by v w are a (pos n) is = (_, refl)
  shift-by v w are a (negsuc n) is = admits-negative known (v ∷ w ∷ []) are 1 w refl n is

  shifts : (vs : List Value) → HaveKindsThen (integer ∷ integer ∷ []) never vs → AreKnown known vs → Yields (effect_under (negative_at 1) known) (Of integer) (λ r. r ≡ of_count shifted vs)
  shifts =
      exactly_two integer integer (λ us. AreKnown known us → Yields (effect_under (negative_at 1) known) (Of integer) (λ r. r ≡ of_count shifted us)) (λ v w i j are.
      answered (effect_under (negative_at 1) known) (Of integer) (λ a. Anything a.0 × (w ≡ value.Integer a.1)) (both (integer_of v) (integer_of w)) (λ a. shift_by_count (shifted a.0) a.1)
      (both-hold Anything (λ n. w ≡ value.Integer n) (integer_of v) (integer_of w) (finds-integer v i) (j.0, integer-is w j, j.1))
      (λ a p. shift-by v w are a.0 a.1 p.1))

may-shift : (shifted : ℕ → ℤ) (n : ℤ) → ResultIs failing (Of integer) (shift_by_count shifted n)
may-shift shifted (pos n) = (_, refl)
may-shift shifted (negsuc n) = tt

pub bits-hold : (c : BitCall) → Each (OverloadHolds (BitCalled c)) (on_bits c)
bits-hold bit.Bitand = (λ known vs h is. answered total (Of integer) _ (two_integers vs) _ (two-ints vs h) (λ a p. (_, refl)), (λ known vs h is. may-answer (Of integer) (two_integers vs) _ (λ a. (_, refl)), tt))
bits-hold bit.Bitor = (λ known vs h is. answered total (Of integer) _ (two_integers vs) _ (two-ints vs h) (λ a p. (_, refl)), (λ known vs h is. may-answer (Of integer) (two_integers vs) _ (λ a. (_, refl)), tt))
bits-hold bit.Bitxor = (λ known vs h is. answered total (Of integer) _ (two_integers vs) _ (two-ints vs h) (λ a p. (_, refl)), (λ known vs h is. may-answer (Of integer) (two_integers vs) _ (λ a. (_, refl)), tt))
bits-hold bit.Bitnand = (λ known vs h is. answered total (Of integer) _ (two_integers vs) _ (two-ints vs h) (λ a p. (_, refl)), (λ known vs h is. may-answer (Of integer) (two_integers vs) _ (λ a. (_, refl)), tt))
bits-hold bit.Bitnot = (λ known vs h is. answered total (Of integer) _ (one_integer vs) _ (one-int vs h) (λ a p. (_, refl)), (λ known vs h is. may-answer (Of integer) (one_integer vs) _ (λ a. (_, refl)), tt))
bits-hold bit.Bitshl = (λ known vs h is. shifts known _ vs h is, (λ known vs h is. may-answer (Of integer) (two_integers vs) _ (λ a. may-shift (shifted_left a.0) a.1), tt))
bits-hold bit.Bitshr = (λ known vs h is. shifts known _ vs h is, (λ known vs h is. may-answer (Of integer) (two_integers vs) _ (λ a. may-shift (shifted_right a.0) a.1), tt))
bits-hold bit.Bitushr = (λ known vs h is. shifts known _ vs h is, (λ known vs h is. may-answer (Of integer) (two_integers vs) _ (λ a. may-shift (shifted_unsigned a.0) a.1), tt))
