-- Each overload of the built-ins on arrays and maps holds.
use Rattle.std.proofs.Common.{◌≡◌, ℕ, ◌-◌, ◌==◌, ℤ, pos, negsuc, Bool, true, false, cond, List, [], ◌∷◌, length, take, reverse, map as mapped, Option, Some, None, option_map, option_and_then, IfSome, Ok, Err, rules, inl, inr, refl, sym, ap, ◌∙◌, subst}
use Rattle.std.specs.List.{slice_get}
use Rattle.std.specs.Map.{keys_of, values_of}
use Rattle.expr_arguments.specs.Arguments.{all_of, answer_on, any_value, array_and_text, both, one_of, two_of}
use Rattle.expr_arguments.specs.Parts.{index_answer}
use Rattle.expr_builtins.specs.Collections.{CollectionCalled, concatenated, keys_layer, keyed_pair, named_pair, pair_of, size_layer, size_of, taken_items, to_pairs_layer, two_items, values_layer}
use Rattle.expr_builtins.proofs.Opening.{flat_items-Array, flat_items-other}
use Rattle.expr_builtins.specs.Distinct.{distinct}
use Rattle.expr_builtins.specs.Nested.{all_flat_items, flat_items}
use Rattle.expr_datetime.specs.declared.moment.DateTimeValue.{DateTimeValue}
use Rattle.expr_datetime.specs.declared.zone.TimezoneValue.{TimezoneValue}
use Rattle.expr_error.specs.ErrorKind.{evaluation}
use Rattle.expr_functions.specs.declared.functions.CollectionCall.{CollectionCall}
use Rattle.expr_functions.specs.declared.functions.CollectionCall.TheVariants as collection
use Rattle.expr_value.specs.Answers.{Answer}
use Rattle.expr_value.specs.Keys.{key_eq, key_put, key_put_all}
use Rattle.expr_value.specs.Values.{integer_of, items_of, key_of, of_key, scalar_pairs, string_of}
use Rattle.expr_value.specs.declared.key.Key.{Key}
use Rattle.expr_value.specs.declared.value.Value as value
use Rattle.expr_value.specs.declared.value.Value.{Value, out-Value, the_lemmas}
use Rattle.expr_value.specs.declared.value.Value.TheOpen.{Value-F}
use Rattle.expr_kinds.specs.Causes.{Literals, AreKnown, effect_under, negative_at}
use Rattle.expr_schema.specs.Kinds.{Kind, any, never, nil, bool, integer, string, bytes, duration, month, weekday, datetime, timezone, array, map, keyed, nilable, others, HasKind, Each, Effect, total, failing}
use Rattle.expr_kinds.specs.Effects.{ResultIs, Yields}
use Rattle.expr_kinds.specs.Overloads.{HaveKindsThen, flat_overloads, is_flat, on_collections}
use Rattle.expr_kinds.proofs.Causes.{admits-negative}
use Rattle.expr_kinds.proofs.Found.{Anything, Holds, integer-is, finds-items, finds-string, finds-value, all-hold, both-hold, mapped-holds, one-holds, then-holds, two-hold, answered, may-answer}
use Rattle.expr_kinds.proofs.Held.{Of, OverloadHolds, exactly_one, exactly_two}
use Rattle.expr_kinds.proofs.Indexed.{byte-of, entry-of, item-of_array, value-of_map}
use Rattle.expr_kinds.proofs.Layers.{Layer, at-layer, string-layer, bytes-layer, array-layer, keyed-layer, map-layer}
use Rattle.expr_kinds.proofs.Lists.{Each-all, Each-append, Each-filter, Each-get, Each-map, Each-reverse, Each-take, nil-or, suc-not-zero}

abbrev Items : Kind → List Value → Type 0
Items k xs = Each (Of k) xs

-- one array
one-array : (k : Kind) (vs : List Value) → HaveKindsThen (array k ∷ []) never vs → Holds (one_of items_of vs) (Items k)
one-array k = one-holds (Items k) items_of (array k) (finds-items k)

an-array : (e : Effect) (k : Kind) (xs : List Value) → Items k xs → ResultIs e (Of (array k)) (Ok (value.Array xs))
an-array e k xs p = (xs, refl, p)

-- one value, by its layer
by-layer : (k gives : Kind) (answers : Layer → Answer) (vs : List Value) → HaveKindsThen (k ∷ []) never vs → ((v : Value) → Of k v → (l : Layer) × (out-Value v ≡ l) × ResultIs total (Of gives) (answers l))
    → Yields total (Of gives) (λ r. r ≡ answer_on (one_of any_value vs) (λ v. answers (out-Value v)))
by-layer k gives answers vs h f =
    answered total (Of gives) (Of k) (one_of any_value vs) (λ v. answers (out-Value v)) (one-holds (Of k) any_value k (finds-value k) vs h) (λ v i.
    let l = f v i in at-layer (λ m. ResultIs total (Of gives) (answers m)) v l.0 l.1 l.2)

-- sizes
sized : (k : Kind) (vs : List Value) → HaveKindsThen (k ∷ []) never vs → ((v : Value) → Of k v → Holds (size_of v) Anything) → Yields total (Of integer) (CollectionCalled collection.Len vs)
sized k vs h f =
    answered total (Of integer) Anything (option_and_then size_of (one_of any_value vs)) _ (then-holds (Of k) Anything (one_of any_value vs) size_of (one-holds (Of k) any_value k (finds-value k) vs h) (λ v i. f v i)) (λ n p. (_, refl))

size-there : (v : Value) (l : Layer) (n : ℕ) → out-Value v ≡ l → size_layer l ≡ Some n → Holds (size_of v) Anything
size-there v l n p q = (n, ap size_layer p ∙ q, tt)

-- the first items
module _ (k : Kind) (known : Literals) where
  first-of : (v w : Value) → AreKnown known (v ∷ w ∷ []) → (xs : List Value) → Items k xs → (n : ℤ) → w ≡ value.Integer n → ResultIs (effect_under (negative_at 1) known) (Of (array k)) (taken_items xs n)
  first-of v w are xs p (pos n) is = (take n xs, refl, Each-take (Of k) n xs p)
  first-of v w are xs p (negsuc n) is = admits-negative known (v ∷ w ∷ []) are 1 w refl n is

  taken : (vs : List Value) → HaveKindsThen (array k ∷ integer ∷ []) never vs → AreKnown known vs → Yields (effect_under (negative_at 1) known) (Of (array k)) (CollectionCalled collection.Take vs)
  taken =
      exactly_two (array k) integer (λ us. AreKnown known us → Yields (effect_under (negative_at 1) known) (Of (array k)) (CollectionCalled collection.Take us)) (λ v w i j are.
      answered (effect_under (negative_at 1) known) (Of (array k)) (λ a. Items k a.0 × (w ≡ value.Integer a.1)) (both (items_of v) (integer_of w)) (λ a. taken_items a.0 a.1)
      (both-hold (Items k) (λ n. w ≡ value.Integer n) (items_of v) (integer_of w) (finds-items k v i) (j.0, integer-is w j, j.1))
      (λ a p. first-of v w are a.0 p.0 a.1 p.1))

-- distinct items
distinct-items : (k : Kind) (xs : List Value) → Items k xs → Items k (distinct xs)
distinct-items k [] p = tt
distinct-items k (x ∷ xs) p = (p.0, Each-filter (Of k) _ (distinct xs) (distinct-items k xs p.1))

-- the items of several arrays
concatenated-items : (k : Kind) (xss : List (List Value)) → Each (Items k) xss → Items k (concatenated xss)
concatenated-items k [] p = tt
concatenated-items k (xs ∷ xss) p = Each-append (Of k) xs (concatenated xss) p.0 (concatenated-items k xss p.1)

joined : (k : Kind) (vs : List Value) → HaveKindsThen (array k ∷ []) (array k) vs → Yields total (Of (array k)) (CollectionCalled collection.Concat vs)
joined k [] h = absurd h
joined k (v ∷ vs) h =
    let arrays = all-hold (Items k) items_of (array k) (finds-items k) (v ∷ vs) h in
    subst (λ b. Yields total (Of (array k)) (λ r. r ≡ cond b (Err evaluation) (answer_on (option_map concatenated (all_of items_of (v ∷ vs))) (λ xs. Ok (value.Array xs))))) (sym (suc-not-zero (length vs)))
    (answered total (Of (array k)) (Items k) (option_map concatenated (all_of items_of (v ∷ vs))) (λ xs. Ok (value.Array xs))
    (mapped-holds (Each (Items k)) (Items k) (all_of items_of (v ∷ vs)) concatenated arrays (concatenated-items k)) (λ xs p. (xs, refl, p)))

-- arrays of which it is known how deep they are
none-nil : items_of value.Nil ≡ None
none-nil = search (rules, the_lemmas)

none-bool : (b : Bool) → items_of (value.Bool b) ≡ None
none-bool b = search (rules, the_lemmas)

none-integer : (n : ℤ) → items_of (value.Integer n) ≡ None
none-integer n = search (rules, the_lemmas)

none-string : (s : List ℕ) → items_of (value.String s) ≡ None
none-string s = search (rules, the_lemmas)

none-bytes : (bs : List ℕ) → items_of (value.Bytes bs) ≡ None
none-bytes bs = search (rules, the_lemmas)

none-duration : (n : ℤ) → items_of (value.Duration n) ≡ None
none-duration n = search (rules, the_lemmas)

none-month : (n : ℕ) → items_of (value.Month n) ≡ None
none-month n = search (rules, the_lemmas)

none-weekday : (n : ℕ) → items_of (value.Weekday n) ≡ None
none-weekday n = search (rules, the_lemmas)

none-moment : (t : DateTimeValue) → items_of (value.DateTime t) ≡ None
none-moment t = search (rules, the_lemmas)

none-zone : (z : TimezoneValue) → items_of (value.Timezone z) ≡ None
none-zone z = search (rules, the_lemmas)

none-map : (m : List (List ℕ × Value)) → items_of (value.Map m) ≡ None
none-map m = search (rules, the_lemmas)

none-keyed : (m : List (Key × Value)) → items_of (value.KeyedMap m) ≡ None
none-keyed m = search (rules, the_lemmas)

pub no-items : (k : Kind) → is_flat k ≡ true → (v : Value) → HasKind k v → items_of v ≡ None
no-items any q v h = absurd (cc q)
no-items never q v h = absurd h
no-items nil q v h = ap items_of h ∙ none-nil
no-items bool q v h = ap items_of h.1 ∙ none-bool h.0
no-items integer q v h = ap items_of h.1 ∙ none-integer h.0
no-items string q v h = ap items_of h.1 ∙ none-string h.0
no-items bytes q v h = ap items_of h.1 ∙ none-bytes h.0
no-items duration q v h = ap items_of h.1 ∙ none-duration h.0
no-items month q v h = ap items_of h.1 ∙ none-month h.0
no-items weekday q v h = ap items_of h.1 ∙ none-weekday h.0
no-items datetime q v h = ap items_of h.1 ∙ none-moment h.0
no-items timezone q v h = ap items_of h.1 ∙ none-zone h.0
no-items (array item) q v h = absurd (cc q)
no-items (map fields) q v h = ap items_of h.1 ∙ none-map h.0
no-items (keyed item) q v h = ap items_of h.1 ∙ none-keyed h.0
no-items (nilable k) q v (inl is) = ap items_of is ∙ none-nil
no-items (nilable k) q v (inr h) = no-items k q v h

module _ (k : Kind) (flat : is_flat k ≡ true) where
  itself : (v : Value) → Of k v → Items k (flat_items v)
  itself v h = subst (Items k) (sym (flat_items-other v (no-items k flat v h))) (h, tt)

  each-flat : (j : Kind) → ((v : Value) → Of j v → Items k (flat_items v)) → (xs : List Value) → Items j xs → Items k (all_flat_items xs)
  each-flat j f [] p = tt
  each-flat j f (x ∷ xs) p = Each-append (Of k) (flat_items x) (all_flat_items xs) (f x p.0) (each-flat j f xs p.1)

  opened : (v : Value) → Of (array k) v → Items k (flat_items v)
  opened v (xs, is, each) = subst (Items k) (sym (ap flat_items is ∙ flat_items-Array xs)) (each-flat k itself xs each)

  flattened : (j : Kind) → ((v : Value) → Of j v → Items k (flat_items v)) → (vs : List Value) → HaveKindsThen (array j ∷ []) never vs → Yields total (Of (array k)) (CollectionCalled collection.Flatten vs)
  flattened j f vs h = answered total (Of (array k)) (Items j) (one_of items_of vs) _ (one-array j vs h) (λ xs p. an-array total k (all_flat_items xs) (each-flat j f xs p))

flat-hold : (k : Kind) (b : Bool) → is_flat k ≡ b → Each (OverloadHolds (CollectionCalled collection.Flatten)) (cond b (flat_overloads k) [])
flat-hold k true q = (λ known vs h is. flattened k q k (itself k q) vs h, (λ known vs h is. flattened k q (array k) (opened k q) vs h, tt))
flat-hold k false q = tt

-- keys, values and pairs
names-are : (ns : List (List ℕ)) → Items string (mapped value.String ns)
names-are ns = Each-map (Of string) value.String ns (Each-all (λ s. Of string (value.String s)) (λ s. (s, refl)) ns)

anything : (xs : List Value) → Items any xs
anything xs = Each-all (Of any) (λ x. tt) xs

a-pair : (k v : Value) → Of (array any) (value.Array (k ∷ v ∷ []))
a-pair k v = (k ∷ v ∷ [], refl, (tt, (tt, tt)))

values-are : {K : Type 0} (k : Kind) (m : List (K × Value)) → Each (λ e. HasKind k e.1) m → Items k (values_of m)
values-are k m p = Each-map (Of k) (λ e. e.1) m p

-- strings with a separator
texts-of : (vs : List Value) → HaveKindsThen (array string ∷ []) never vs → Holds (array_and_text vs) (λ a. Items string a.0)
texts-of = exactly_one (array string) (λ us. Holds (array_and_text us) (λ a. Items string a.0)) (λ v h. mapped-holds (Items string) (λ a. Items string a.0) (items_of v) (λ xs. (xs, [])) (finds-items string v h) (λ xs p. p))

texts-and-separator : (vs : List Value) → HaveKindsThen (array string ∷ string ∷ []) never vs → Holds (array_and_text vs) (λ a. Items string a.0)
texts-and-separator =
    exactly_two (array string) string (λ us. Holds (array_and_text us) (λ a. Items string a.0)) (λ v t h i.
    let two = both-hold (Items string) Anything (items_of v) (string_of t) (finds-items string v h) (finds-string t i) in (two.0, two.1, two.2.0))

glued : (vs : List Value) → Holds (array_and_text vs) (λ a. Items string a.0) → Yields total (Of string) (CollectionCalled collection.Join vs)
glued vs found =
    answered total (Of string) (λ a. Items string a.0) (array_and_text vs) _ found (λ a p.
    answered total (Of string) (Each Anything) (all_of string_of a.0) _ (all-hold Anything string_of string finds-string a.0 p) (λ ts q. (_, refl)) _ refl)

-- pairs that become a map: a later value of a key counts
module _ (k : Kind) where
  abbrev Two : Value × Value → Type 0
  Two p = Of k p.0 × Of k p.1

  abbrev Second : {K : Type 0} → K × Value → Type 0
  Second p = Of k p.1

  -- something with a property, if there is something
  abbrev May : {A : Type 0} → Option A → (A → Type 0) → Type 0
  May o P = IfSome o P

  two-in : (xs : List Value) → Items k xs → May (two_items xs) Two
  two-in [] p = tt
  two-in (x ∷ []) p = tt
  two-in (x ∷ y ∷ []) p = (p.0, p.1.0)
  two-in (x ∷ y ∷ z ∷ more) p = tt

  pair-in : (v : Value) → Of (array k) v → May (pair_of v) Two
  pair-in v h = let xs = finds-items k v h in subst (λ o. May (option_and_then two_items o) Two) (sym xs.1) (two-in xs.0 xs.2)

  cons-may : {A : Type 0} (P : A → Type 0) (o : Option A) (os : Option (List A)) → May o P → May os (Each P) → May (option_and_then (λ x. option_map (λ xs. x ∷ xs) os) o) (Each P)
  cons-may P None os h i = tt
  cons-may P (Some x) None h i = tt
  cons-may P (Some x) (Some xs) h i = (h, i)

  pairs-in : (vs : List Value) → Each (Of (array k)) vs → May (all_of pair_of vs) (Each Two)
  pairs-in [] p = tt
  pairs-in (v ∷ vs) p = cons-may Two (pair_of v) (all_of pair_of vs) (pair-in v p.0) (pairs-in vs p.1)

  keyed-may : (o : Option Key) (v : Value) (os : Option (List (Key × Value))) → Of k v → May os (Each Second) → May (option_and_then (λ q. option_map (λ rest. (q, v) ∷ rest) os) o) (Each Second)
  keyed-may None v os h i = tt
  keyed-may (Some q) v None h i = tt
  keyed-may (Some q) v (Some rest) h i = (h, i)

  scalars-in : (ps : List (Value × Value)) → Each Two ps → May (scalar_pairs ps) (Each Second)
  scalars-in [] p = tt
  scalars-in (q ∷ ps) p = keyed-may (key_of q.0) q.1 (scalar_pairs ps) p.0.1 (scalars-in ps p.1)

  put-in : (key : Key) (v : Value) → Of k v → (m : List (Key × Value)) → Each Second m → Each Second (key_put key v m)
  put-in key v h [] p = (h, tt)
  put-in key v h (e ∷ es) p = chosen (key_eq key e.0) (put-in key v h es p.1)
    where
      chosen : (b : Bool) → Each Second (key_put key v es) → Each Second (cond b ((e.0, v) ∷ es) (e ∷ key_put key v es))
      chosen true q = (h, p.1)
      chosen false q = (p.0, q)

  all-put : (ps m : List (Key × Value)) → Each Second ps → Each Second m → Each Second (key_put_all m ps)
  all-put [] m p q = q
  all-put (e ∷ ps) m p q = all-put ps (key_put e.0 e.1 m) p.1 (put-in e.0 e.1 p.0 m q)

  of-pairs : (ps : List (Value × Value)) → Each Two ps → ResultIs failing (Of (keyed k)) (answer_on (option_map (key_put_all []) (scalar_pairs ps)) (λ m. Ok (value.KeyedMap m)))
  of-pairs ps p = by_scalars (scalar_pairs ps) (scalars-in ps p)
    where
      by_scalars : (o : Option (List (Key × Value))) → May o (Each Second) → ResultIs failing (Of (keyed k)) (answer_on (option_map (key_put_all []) o) (λ m. Ok (value.KeyedMap m)))
      by_scalars None q = tt
      by_scalars (Some qs) q = (key_put_all [] qs, refl, all-put qs [] q tt)

  from-pairs : (vs : List Value) → HaveKindsThen (array (array k) ∷ []) never vs → Yields failing (Of (keyed k)) (CollectionCalled collection.FromPairs vs)
  from-pairs vs h r is =
      let xs = one-array (array k) vs h in
      subst (λ a. ResultIs failing (Of (keyed k)) a) (sym is)
      (subst (λ o. ResultIs failing (Of (keyed k)) (answer_on (option_and_then (all_of pair_of) o) (λ ps. answer_on (option_map (key_put_all []) (scalar_pairs ps)) (λ m. Ok (value.KeyedMap m))))) (sym xs.1) (by_all (all_of pair_of xs.0) (pairs-in xs.0 xs.2)))
    where
      by_all : (o : Option (List (Value × Value))) → May o (Each Two) → ResultIs failing (Of (keyed k)) (answer_on o (λ ps. answer_on (option_map (key_put_all []) (scalar_pairs ps)) (λ m. Ok (value.KeyedMap m))))
      by_all None q = tt
      by_all (Some ps) q = of-pairs ps q

-- the part at a key
got : (j k gives : Kind) → ((v w : Value) → Of j v → Of k w → ResultIs total (Of gives) (index_answer v w false)) → (vs : List Value) → HaveKindsThen (j ∷ k ∷ []) never vs → Yields total (Of gives) (CollectionCalled collection.Get vs)
got j k gives f vs h =
    answered total (Of gives) (λ a. Of j a.0 × Of k a.1) (two_of any_value any_value vs) _ (two-hold (Of j) (Of k) any_value any_value j k (finds-value j) (finds-value k) vs h) (λ a p. f a.0 a.1 p.0 p.1)

-- arguments of unknown kinds
may-take : (xs : List Value) (n : ℤ) → ResultIs failing (Of (array any)) (taken_items xs n)
may-take xs (pos n) = (take n xs, refl, anything (take n xs))
may-take xs (negsuc n) = tt

may-join_arrays : (b : Bool) (o : Option (List Value)) → ResultIs failing (Of (array any)) (cond b (Err evaluation) (answer_on o (λ xs. Ok (value.Array xs))))
may-join_arrays true o = tt
may-join_arrays false None = tt
may-join_arrays false (Some xs) = (xs, refl, anything xs)

may-keys : (l : Layer) → ResultIs failing (Of (array any)) (keys_layer l)
may-keys (Value-F.Map m) = an-array failing any _ (anything _)
may-keys (Value-F.KeyedMap m) = an-array failing any _ (anything _)
may-keys l = tt

may-values : (l : Layer) → ResultIs failing (Of (array any)) (values_layer l)
may-values (Value-F.Map m) = an-array failing any _ (anything _)
may-values (Value-F.KeyedMap m) = an-array failing any _ (anything _)
may-values l = tt

may-pairs : (l : Layer) → ResultIs failing (Of (array any)) (to_pairs_layer l)
may-pairs (Value-F.Map m) = an-array failing any _ (anything _)
may-pairs (Value-F.KeyedMap m) = an-array failing any _ (anything _)
may-pairs l = tt

any-keyed : (m : List (Key × Value)) → Of (keyed any) (value.KeyedMap m)
any-keyed m = (m, refl, Each-all (λ e. HasKind any e.1) (λ e. tt) m)

pub collections-hold : (c : CollectionCall) (k : Kind) → Each (OverloadHolds (CollectionCalled c)) (on_collections c k)
collections-hold collection.Len k = (
  λ known vs h is. sized string vs h (λ v i. size-there v (Value-F.String i.0) _ (string-layer v i) refl),
  (
    λ known vs h is. sized (array any) vs h (λ v i. size-there v (Value-F.Array i.0) _ (array-layer any v i) refl),
    (
      λ known vs h is. sized bytes vs h (λ v i. size-there v (Value-F.Bytes i.0) _ (bytes-layer v i) refl),
      (
        λ known vs h is. sized (map (others any)) vs h (λ v i. size-there v (Value-F.Map i.0) _ (map-layer i.0 v i.1) refl),
        (λ known vs h is. sized (keyed any) vs h (λ v i. size-there v (Value-F.KeyedMap i.0) _ (keyed-layer any v i) refl), (λ known vs h is. may-answer (Of integer) (option_and_then size_of (one_of any_value vs)) _ (λ n. (_, refl)), tt)),
      ),
    ),
  ),
)
collections-hold collection.First k =
    (λ known vs h is. answered total (Of (nilable k)) (Items k) (one_of items_of vs) _ (one-array k vs h) (λ xs p. nil-or k (slice_get xs 0) (Each-get (Of k) xs 0 p)), tt)
collections-hold collection.Last k =
    (λ known vs h is. answered total (Of (nilable k)) (Items k) (one_of items_of vs) _ (one-array k vs h) (λ xs p. nil-or k (slice_get xs (length xs - 1)) (Each-get (Of k) xs (length xs - 1) p)), tt)
collections-hold collection.Take k = (λ known vs h is. taken k known vs h is, (λ known vs h is. may-answer (Of (array any)) (two_of items_of integer_of vs) _ (λ a. may-take a.0 a.1), tt))
collections-hold collection.Reverse k =
    (λ known vs h is. answered total (Of (array k)) (Items k) (one_of items_of vs) _ (one-array k vs h) (λ xs p. an-array total k (reverse xs) (Each-reverse (Of k) xs p)), (λ known vs h is. may-answer (Of (array any)) (one_of items_of vs) _ (λ xs. an-array failing any _ (anything _)), tt))
collections-hold collection.Uniq k =
    (λ known vs h is. answered total (Of (array k)) (Items k) (one_of items_of vs) _ (one-array k vs h) (λ xs p. an-array total k (distinct xs) (distinct-items k xs p)), (λ known vs h is. may-answer (Of (array any)) (one_of items_of vs) _ (λ xs. an-array failing any _ (anything _)), tt))
collections-hold collection.Flatten k =
    (λ known vs h is. answered total (Of (array any)) (Items any) (one_of items_of vs) _ (one-array any vs h) (λ xs p. an-array total any _ (anything _)), (λ known vs h is. may-answer (Of (array any)) (one_of items_of vs) _ (λ xs. an-array failing any _ (anything _)), flat-hold k (is_flat k) refl))
collections-hold collection.Concat k = (λ known vs h is. joined k vs h, (λ known vs h is r p. subst (λ s. ResultIs failing (Of (array any)) s) (sym p) (may-join_arrays (length vs == 0) (option_map concatenated (all_of items_of vs))), tt))
collections-hold collection.Keys k = (
  λ known vs h is. by-layer (map (others any)) (array string) keys_layer vs h (λ v i. (Value-F.Map i.0, map-layer i.0 v i.1, an-array total string _ (names-are (keys_of i.0)))),
  (λ known vs h is. by-layer (keyed any) (array any) keys_layer vs h (λ v i. (Value-F.KeyedMap i.0, keyed-layer any v i, an-array total any _ (anything _))), (λ known vs h is. may-answer (Of (array any)) (one_of any_value vs) _ (λ v. may-keys (out-Value v)), tt)),
)
collections-hold collection.Values k = (
  λ known vs h is. by-layer (map (others any)) (array any) values_layer vs h (λ v i. (Value-F.Map i.0, map-layer i.0 v i.1, an-array total any _ (anything _))),
  (λ known vs h is. by-layer (keyed k) (array k) values_layer vs h (λ v i. (Value-F.KeyedMap i.0, keyed-layer k v i, an-array total k _ (values-are k i.0 i.2))), (λ known vs h is. may-answer (Of (array any)) (one_of any_value vs) _ (λ v. may-values (out-Value v)), tt)),
)
collections-hold collection.ToPairs k = (
  λ known vs h is. by-layer (map (others any)) (array (array any)) to_pairs_layer vs h (λ v i.
      (Value-F.Map i.0, map-layer i.0 v i.1, an-array total (array any) _ (Each-map (Of (array any)) named_pair i.0 (Each-all (λ p. Of (array any) (named_pair p)) (λ p. a-pair (value.String p.0) p.1) i.0)))),
  (
    λ known vs h is. by-layer (keyed any) (array (array any)) to_pairs_layer vs h (λ v i.
        (Value-F.KeyedMap i.0, keyed-layer any v i, an-array total (array any) _ (Each-map (Of (array any)) keyed_pair i.0 (Each-all (λ p. Of (array any) (keyed_pair p)) (λ p. a-pair (of_key p.0) p.1) i.0)))),
    (λ known vs h is. may-answer (Of (array any)) (one_of any_value vs) _ (λ v. may-pairs (out-Value v)), tt),
  ),
)
collections-hold collection.Get k = (
  λ known vs h is. got (array k) integer (nilable k) (λ v w i j. item-of_array total false v w k i j) vs h,
  (
    λ known vs h is. got bytes integer (nilable integer) (λ v w i j. byte-of total false v w i j) vs h,
    (
      λ known vs h is. got (map (others k)) string (nilable k) (λ v w i j. value-of_map total false v w k i j) vs h,
      (λ known vs h is. got (keyed k) any (nilable k) (λ v w i j. entry-of total false v w k i) vs h, tt),
    ),
  ),
)
collections-hold collection.Join k = (λ known vs h is. glued vs (texts-of vs h), (λ known vs h is. glued vs (texts-and-separator vs h), (λ known vs h is. may-answer (Of string) (array_and_text vs) _ (λ a. may-answer (Of string) (all_of string_of a.0) _ (λ ts. (_, refl)) _ refl), tt)))
collections-hold collection.FromPairs k = (λ known vs h is. from-pairs k vs h, (λ known vs h is. may-answer (Of (keyed any)) (option_and_then (all_of pair_of) (one_of items_of vs)) _ (λ ps. may-answer (Of (keyed any)) (option_map (key_put_all []) (scalar_pairs ps)) _ any-keyed _ refl), tt))
