-- Items that are their own keys.
use Rattle.std.proofs.Common.{◌≡◌, ℕ, ℤ, ◌+◌, ◌<◌, Bool, true, false, cond, ◌&&◌, ◌||◌, List, [], ◌∷◌, length, map, Option, Some, None, Ok, Err, MatchBool, refl, sym, ap, ◌∙◌, subst, arith, inl, inr, ◌⊎◌}
use Rattle.std.specs.List.{filter, list_all}
use Rattle.std.specs.List.Sorted.{ties, IsSortedBy}
use Rattle.std.proofs.lemmas.List.{get_or-map, length-map}
use Rattle.std.proofs.lemmas.List.Sorted.{IsPermutation-map}
use Rattle.std.proofs.lemmas.Simd.{map-map}
use Rattle.expr_value.specs.Answers.{Answer}
use Rattle.expr_error.specs.ErrorKind.{evaluation}
use Rattle.std.specs.Option.{is_some, option_map}
use Rattle.expr_value.specs.Values.{integer_of, of_key, string_of}
use Rattle.expr_value.specs.declared.key.Key.{Key}
use Rattle.expr_value.specs.declared.value.Value as value
use Rattle.expr_value.specs.declared.value.Value.{Value, roll-Value, ind-Value}
use Rattle.expr_value.specs.declared.value.Value.TheOpen.{Value-F}
use Rattle.expr_predicates.specs.Sorting.{IsSorting, Sorts, are_alike, beside_keys, is_integer, is_text, precedes, sort_key, own_keys, own_answers, items_alike}

abbrev Sorted_by : Key → Bool
Sorted_by k = is_integer k || is_text k

-- an item that sorts is the value of its key
abbrev Own : Value → Type 0
Own v = Sorted_by (sort_key v) ≡ true → v ≡ of_key (sort_key v)

own_layer : (x : Value-F Value) → Own (roll-Value x)
unfolding Rattle.expr_value.specs.declared.value.Value.TheViews.out-Value denote.Hole.Carrier.out roll-Value denote.Hole.Carrier.roll
own_layer (Value-F.Integer n) p = refl
own_layer (Value-F.Bool b) p = cc
own_layer Value-F.Nil p = cc
own_layer (Value-F.String s) p = refl
own_layer (Value-F.Duration n) p = cc
own_layer (Value-F.Month n) p = cc
own_layer (Value-F.Weekday n) p = cc
own_layer (Value-F.DateTime t) p = cc
own_layer (Value-F.Timezone z) p = cc
own_layer (Value-F.Array xs) p = cc
own_layer (Value-F.Bytes bs) p = cc
own_layer (Value-F.Map m) p = cc
own_layer (Value-F.KeyedMap m) p = cc

own : (v : Value) → Own v
own = ind-Value Own (λ x y is. own_layer x)

-- which items are integers or strings
kind_layer : (x : Value-F Value) → (is_integer (sort_key (roll-Value x)) ≡ is_some (integer_of (roll-Value x))) × (is_text (sort_key (roll-Value x)) ≡ is_some (string_of (roll-Value x)))
unfolding Rattle.expr_value.specs.declared.value.Value.TheViews.out-Value denote.Hole.Carrier.out roll-Value denote.Hole.Carrier.roll
kind_layer (Value-F.Integer n) = (refl, refl)
kind_layer (Value-F.Bool b) = (refl, refl)
kind_layer Value-F.Nil = (refl, refl)
kind_layer (Value-F.String s) = (refl, refl)
kind_layer (Value-F.Duration n) = (refl, refl)
kind_layer (Value-F.Month n) = (refl, refl)
kind_layer (Value-F.Weekday n) = (refl, refl)
kind_layer (Value-F.DateTime t) = (refl, refl)
kind_layer (Value-F.Timezone z) = (refl, refl)
kind_layer (Value-F.Array xs) = (refl, refl)
kind_layer (Value-F.Bytes bs) = (refl, refl)
kind_layer (Value-F.Map m) = (refl, refl)
kind_layer (Value-F.KeyedMap m) = (refl, refl)

own_kind : (v : Value) → (is_integer (sort_key v) ≡ is_some (integer_of v)) × (is_text (sort_key v) ≡ is_some (string_of v))
own_kind = ind-Value (λ v. (is_integer (sort_key v) ≡ is_some (integer_of v)) × (is_text (sort_key v) ≡ is_some (string_of v))) (λ x y is. kind_layer x)

some_mapped : {A B : Type 0} (f : A → B) (o : Option A) → is_some o ≡ is_some (option_map f o)
some_mapped f (Some a) = refl
some_mapped f None = refl

pub integer_found : (v : Value) (b : Bool) (o : Option ℤ) → b ≡ is_some o → o ≡ integer_of v → b ≡ is_integer (sort_key v)
integer_found v b o e is = e ∙ ap is_some is ∙ sym (own_kind v).0

pub text_found : {A : Type 0} (f : A → List ℕ) (v : Value) (b : Bool) (o : Option A) → b ≡ is_some o → option_map f o ≡ string_of v → b ≡ is_text (sort_key v)
text_found f v b o e is = e ∙ some_mapped f o ∙ ap is_some is ∙ sym (own_kind v).1

all_own : (t : Key → Bool) (xs : List Value) → list_all (λ x. t (sort_key x)) xs ≡ list_all (λ p. t p.0) (own_keys xs)
all_own t [] = refl
all_own t (x ∷ xs) = ap (λ b. t (sort_key x) && b) (all_own t xs)

pub alike_own : (xs : List Value) → are_alike (own_keys xs) ≡ items_alike xs
alike_own xs = sym (λ i. all_own is_integer xs i || all_own is_text xs i)

abbrev whole : Key × Unit {0} → Key × Value
whole p = (p.0, of_key p.0)

both : (b c : Bool) → (b && c) ≡ true → (b ≡ true) × (c ≡ true)
both true c e = (refl, e)
both false c e = cc

one_of : (b c : Bool) → (b || c) ≡ true → (b ≡ true) ⊎ (c ≡ true)
one_of true c e = inl refl
one_of false c e = inr e

module _ (t : Key → Bool) where
  all_same : (xs : List Value) → list_all (λ p. t p.0) (beside_keys (own_answers xs)) ≡ list_all (λ p. t p.0) (own_keys xs)
  all_same [] = refl
  all_same (x ∷ xs) = ap (λ b. t (sort_key x) && b) (all_same xs)

  back : ((k : Key) → t k ≡ true → Sorted_by k ≡ true) → (xs : List Value) → list_all (λ p. t p.0) (own_keys xs) ≡ true → beside_keys (own_answers xs) ≡ map whole (own_keys xs)
  back h [] e = refl
  back h (x ∷ xs) e =
      let p = both (t (sort_key x)) (list_all (λ p. t p.0) (own_keys xs)) e in
      (λ i. (sort_key x, own x (h (sort_key x) p.0) i) ∷ back h xs p.1 i)

by_text : (b : Bool) → (b || true) ≡ true
by_text true = refl
by_text false = refl

alike_same : (xs : List Value) → are_alike (beside_keys (own_answers xs)) ≡ are_alike (own_keys xs)
alike_same xs = λ i. all_same is_integer xs i || all_same is_text xs i

items_back : (xs : List Value) → are_alike (own_keys xs) ≡ true → beside_keys (own_answers xs) ≡ map whole (own_keys xs)
items_back xs e = by (one_of (list_all (λ p. is_integer p.0) (own_keys xs)) (list_all (λ p. is_text p.0) (own_keys xs)) e)
  where
    by : (list_all (λ p. is_integer p.0) (own_keys xs) ≡ true) ⊎ (list_all (λ p. is_text p.0) (own_keys xs) ≡ true) → beside_keys (own_answers xs) ≡ map whole (own_keys xs)
    by (inl p) = back is_integer (λ k h. ap (λ b. b || is_text k) h) xs p
    by (inr p) = back is_text (λ k h. ap (λ b. is_integer k || b) h ∙ by_text (is_integer k)) xs p

module _ {A B : Type 0} (f : A → B) (p : B → Bool) where
  chosen : (b : Bool) (x : A) (l : List A) → cond b (f x ∷ map f l) (map f l) ≡ map f (cond b (x ∷ l) l)
  chosen true x l = refl
  chosen false x l = refl

  filter_through : (xs : List A) → filter p (map f xs) ≡ map f (filter (λ x. p (f x)) xs)
  filter_through [] = refl
  filter_through (x ∷ xs) = ap (λ l. cond (p (f x)) (f x ∷ l) l) (filter_through xs) ∙ chosen (p (f x)) x (filter (λ y. p (f y)) xs)

sorted_whole : (down : Bool) (qs : List (Key × Unit {0})) → IsSortedBy (precedes down) qs → IsSortedBy (precedes down) (map whole qs)
sorted_whole down qs h k d from within =
    let e : length (map whole qs) ≡ length qs = length-map qs whole in
    let a : k + 1 < length qs = omega (arith, within, e) in
    let b : k < length qs = omega (arith, a) in
    (λ i. precedes down (get_or-map whole qs (k + 1) (d.0, tt) d a i) (get_or-map whole qs k (d.0, tt) d b i)) ∙ h k (d.0, tt) from a

whole_sorting : (down : Bool) (ps qs : List (Key × Unit {0})) → IsSorting down ps qs → IsSorting down (map whole ps) (map whole qs)
whole_sorting down ps qs h = record {
  permutation = IsPermutation-map whole ps qs h.permutation;
  sorted = sorted_whole down qs h.sorted;
  stable = λ x. filter_through whole (ties (precedes down) x) qs ∙ ap (map whole) (h.stable (x.0, tt)) ∙ sym (filter_through whole (ties (precedes down) x) ps);
}

abbrev values : List (Key × Unit {0}) → List Value
values qs = map (λ p. of_key p.0) qs

abbrev Given : List Value → Answer
Given xs = Ok (value.Array xs)

made_of : {xs ys : List Value} → xs ≡ ys → Given xs ≡ Given ys
made_of e = λ i. Given (e i)

pub sorts_alone : (down : Bool) (xs : List Value) (qs : List (Key × Unit {0})) → are_alike (own_keys xs) ≡ true → IsSorting down (own_keys xs) qs → Sorts down (own_answers xs) (Ok (value.Array (values qs)))
sorts_alone down xs qs e h =
    let answer : Answer = Ok (value.Array (values qs)) in
    let is : IsSorting down (beside_keys (own_answers xs)) (map whole qs) = subst (λ l. IsSorting down l (map whole qs)) (sym (items_back xs e)) (whole_sorting down (own_keys xs) qs h) in
    let made : answer ≡ Ok (value.Array (map (λ p. p.1) (map whole qs))) = made_of (sym (map-map (λ p. p.1) whole qs)) in
    subst (λ b. MatchBool b ((rs : List (Key × Value)) × IsSorting down (beside_keys (own_answers xs)) rs × (answer ≡ Ok (value.Array (map (λ p. p.1) rs)))) (answer ≡ Err evaluation))
    (sym (alike_same xs ∙ e)) (map whole qs, is, made)

pub refuses_alone : (down : Bool) (xs : List Value) → are_alike (own_keys xs) ≡ false → Sorts down (own_answers xs) (Err evaluation)
refuses_alone down xs e =
    let answer : Answer = Err evaluation in
    subst (λ b. MatchBool b ((rs : List (Key × Value)) × IsSorting down (beside_keys (own_answers xs)) rs × (answer ≡ Ok (value.Array (map (λ p. p.1) rs)))) (answer ≡ Err evaluation))
    (sym (alike_same xs ∙ e)) refl
