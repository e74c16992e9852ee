-- Sorted items are of the kind that the items are of.
use Rattle.std.proofs.Common.{◌≡◌, ℕ, ℤ, Bool, true, false, cond, ◌&&◌, ◌||◌, List, [], ◌∷◌, map as mapped, Option, Some, None, unwrap_or, Result, Ok, Err, MatchBool, bytes_eq, codes, rules, refl, sym, ap, ◌∙◌, subst}
use Rattle.std.specs.List.{list_all, slice_get}
use Rattle.std.proofs.lemmas.List.Elements.{All-from_recursion, recursion_from_All}
use Rattle.std.proofs.lemmas.List.Sorted.{All-permutation}
use Rattle.expr_arguments.specs.Arguments.{array_then}
use Rattle.expr_error.specs.ErrorKind.{ErrorKind, evaluation}
use Rattle.expr_predicates.specs.Calls.{SortsItems, direction_named, direction_of}
use Rattle.expr_predicates.specs.Sorting.{IsSorting, Sorts, are_alike, beside_keys, is_integer, is_text, own_answers, sort_key}
use Rattle.expr_value.specs.Answers.{Answer, ThenIfOk}
use Rattle.expr_value.specs.Values.{key_of, string_of}
use Rattle.expr_value.specs.declared.key.Key.{Key}
use Rattle.expr_value.specs.declared.value.Value as value
use Rattle.expr_value.specs.declared.value.Value.{Value, the_lemmas}
use Rattle.expr_kinds.specs.Causes.{Literals, AreKnown, direction_at, effect_under}
use Rattle.expr_schema.specs.Kinds.{Kind, never, integer, string, array, HasKind, Each, Effect, total, failing}
use Rattle.expr_kinds.specs.Effects.{ResultIs, Yields}
use Rattle.expr_kinds.specs.Overloads.{HaveKindsThen, on_sorting}
use Rattle.expr_kinds.proofs.Answered.{ThenIfOk-yields}
use Rattle.expr_kinds.proofs.Causes.{admits-direction}
use Rattle.expr_kinds.proofs.Found.{items-are, string-is}
use Rattle.expr_kinds.proofs.Held.{Of, OverloadHolds, exactly_one, exactly_two}
use Rattle.expr_kinds.proofs.Lists.{Each-map}

-- items with the results for them, which sort
abbrev pub AreAlike : List (Value × Value) → Type 0
AreAlike rs = are_alike (beside_keys rs) ≡ true

-- each item is of a kind
abbrev ItemsOf : {K : Type 0} → Kind → List (K × Value) → Type 0
ItemsOf k ps = Each (λ p. Of k p.1) ps

module _ (k : Kind) (rs : List (Value × Value)) (items : Each (λ r. Of k r.0) rs) where
  pairs-of : ItemsOf k (beside_keys rs)
  pairs-of = Each-map (λ p. Of k p.1) (λ (r : Value × Value). (sort_key r.1, r.0)) rs items

  -- the same items in another order
  after : (down : Bool) (qs : List (Key × Value)) → IsSorting down (beside_keys rs) qs → Of (array k) (value.Array (mapped (λ p. p.1) qs))
  after down qs s = (mapped (λ p. p.1) qs, refl, Each-map (Of k) (λ (p : Key × Value). p.1) qs (recursion_from_All (λ p. Of k p.1) qs (All-permutation (λ p. Of k p.1) (beside_keys rs) qs s.permutation (All-from_recursion (λ p. Of k p.1) (beside_keys rs) pairs-of))))

  -- keys that are all integers or all strings sort
  pub sorts-alike : (e : Effect) (down : Bool) → AreAlike rs → Yields e (Of (array k)) (Sorts down rs)
  sorts-alike e down alike a p =
      let is = subst (λ b. MatchBool b ((qs : List (Key × Value)) × IsSorting down (beside_keys rs) qs × (a ≡ Ok (value.Array (mapped (λ q. q.1) qs)))) (a ≡ Err evaluation)) alike p in
      subst (λ r. ResultIs e (Of (array k)) r) (sym is.2) (after down is.0 is.1)

  -- others are an error
  pub sorts-failing : (down : Bool) → Yields failing (Of (array k)) (Sorts down rs)
  sorts-failing down a p = by_alike (are_alike (beside_keys rs)) p
    where
      by_alike : (b : Bool) → MatchBool b ((qs : List (Key × Value)) × IsSorting down (beside_keys rs) qs × (a ≡ Ok (value.Array (mapped (λ q. q.1) qs)))) (a ≡ Err evaluation) → ResultIs failing (Of (array k)) a
      by_alike true (qs, s, is) = subst (λ r. ResultIs failing (Of (array k)) r) (sym is) (after down qs s)
      by_alike false is = subst (λ r. ResultIs failing (Of (array k)) r) (sym is) tt

key-integer : (n : ℤ) → key_of (value.Integer n) ≡ Some (Key.Integer n)
key-integer n = search (rules, the_lemmas)

key-string : (s : List ℕ) → key_of (value.String s) ≡ Some (Key.String s)
key-string s = search (rules, the_lemmas)

all-integers : (rs : List (Value × Value)) → Each (λ r. Of integer r.1) rs → list_all (λ p. is_integer p.0) (beside_keys rs) ≡ true
all-integers [] p = refl
all-integers (r ∷ rs) p = (λ i. both (key i) (all-integers rs p.1 i))
  where
    both : Key → Bool → Bool
    both q b = is_integer q && b

    key : sort_key r.1 ≡ Key.Integer p.0.0
    key = ap sort_key p.0.1 ∙ ap (λ o. unwrap_or o Key.Nil) (key-integer p.0.0)

all-strings : (rs : List (Value × Value)) → Each (λ r. Of string r.1) rs → list_all (λ p. is_text p.0) (beside_keys rs) ≡ true
all-strings [] p = refl
all-strings (r ∷ rs) p = (λ i. both (key i) (all-strings rs p.1 i))
  where
    both : Key → Bool → Bool
    both q b = is_text q && b

    key : sort_key r.1 ≡ Key.String p.0.0
    key = ap sort_key p.0.1 ∙ ap (λ o. unwrap_or o Key.Nil) (key-string p.0.0)

pub alike-integers : (rs : List (Value × Value)) → Each (λ r. Of integer r.1) rs → AreAlike rs
alike-integers rs p = ap (λ b. b || list_all (λ q. is_text q.0) (beside_keys rs)) (all-integers rs p)

or-true : (b : Bool) → (b || true) ≡ true
or-true true = refl
or-true false = refl

pub alike-strings : (rs : List (Value × Value)) → Each (λ r. Of string r.1) rs → AreAlike rs
alike-strings rs p = ap (λ b. list_all (λ q. is_integer q.0) (beside_keys rs) || b) (all-strings rs p) ∙ or-true (list_all (λ q. is_integer q.0) (beside_keys rs))

-- the direction at a place
module _ (known : Literals) (vs : List Value) (are : AreKnown known vs) (n : ℕ) (w : Value) (at : slice_get vs n ≡ Some w) (h : Of string w) where
  abbrev Directed : Result Bool ErrorKind → Type 0
  Directed r = ResultIs (effect_under (direction_at n) known) (λ (down : Bool). Unit {0}) r

  by-text : (b c : Bool) → bytes_eq h.0 (codes "desc") ≡ b → bytes_eq h.0 (codes "asc") ≡ c → Directed (cond b (Ok true) (cond c (Ok false) (Err evaluation)))
  by-text true c p q = tt
  by-text false true p q = tt
  by-text false false p q = admits-direction known vs are n w at h.0 h.1 p q

  pub direction-known : Directed (direction_named (string_of w))
  direction-known = subst (λ o. Directed (direction_named o)) (sym (string-is w h)) (by-text (bytes_eq h.0 (codes "desc")) (bytes_eq h.0 (codes "asc")) refl refl)

-- `sort`
module _ (k : Kind) where
  own-items : (xs : List Value) → Each (Of k) xs → Each (λ r. Of k r.0) (own_answers xs)
  own-items xs p = Each-map (λ r. Of k r.0) (λ (x : Value). (x, x)) xs p

  own-keys : (xs : List Value) → Each (Of k) xs → Each (λ r. Of k r.1) (own_answers xs)
  own-keys xs p = Each-map (λ r. Of k r.1) (λ (x : Value). (x, x)) xs p

  -- what `sort` does after its first argument
  abbrev SortsThen : Option Value → List Value → Answer → Type 0
  SortsThen more xs = ThenIfOk (direction_of more) (λ down. Sorts down (own_answers xs))

  sorts-one : (e : Effect) (v : Value) → HasKind (array k) v → ((xs : List Value) → Each (Of k) xs → Yields e (Of (array k)) (SortsThen None xs)) → Yields e (Of (array k)) (SortsItems (v ∷ []))
  sorts-one e v h f =
      subst (λ o. Yields e (Of (array k)) (ThenIfOk (array_then o None) (λ p. SortsThen p.1 p.0))) (sym (items-are k v h)) (f h.0 h.2)

  sorts-two : (e : Effect) (v w : Value) → HasKind (array k) v → ((xs : List Value) → Each (Of k) xs → Yields e (Of (array k)) (SortsThen (Some w) xs)) → Yields e (Of (array k)) (SortsItems (v ∷ w ∷ []))
  sorts-two e v w h f =
      subst (λ o. Yields e (Of (array k)) (ThenIfOk (array_then o (Some w)) (λ p. SortsThen p.1 p.0))) (sym (items-are k v h)) (f h.0 h.2)

  -- items whose keys sort
  module _ (alike : (xs : List Value) → Each (Of k) xs → AreAlike (own_answers xs)) where
    ascending : (vs : List Value) → HaveKindsThen (array k ∷ []) never vs → Yields total (Of (array k)) (SortsItems vs)
    ascending = exactly_one (array k) (λ us. Yields total (Of (array k)) (SortsItems us)) (λ v h. sorts-one total v h (λ xs p. sorts-alike k (own_answers xs) (own-items xs p) total false (alike xs p)))

    directed : (known : Literals) (vs : List Value) → HaveKindsThen (array k ∷ string ∷ []) never vs → AreKnown known vs → Yields (effect_under (direction_at 1) known) (Of (array k)) (SortsItems vs)
    directed known =
        exactly_two (array k) string (λ us. AreKnown known us → Yields (effect_under (direction_at 1) known) (Of (array k)) (SortsItems us)) (λ v w h i are.
        sorts-two (effect_under (direction_at 1) known) v w h (λ xs p.
        ThenIfOk-yields (effect_under (direction_at 1) known) (λ (down : Bool). Unit {0}) (Of (array k)) (direction_named (string_of w)) (λ down. Sorts down (own_answers xs)) (direction-known known (v ∷ w ∷ []) are 1 w refl i) (λ down u.
        sorts-alike k (own_answers xs) (own-items xs p) (effect_under (direction_at 1) known) down (alike xs p))))

  -- any items
  any-direction : (r : Result Bool ErrorKind) → ResultIs failing (λ (down : Bool). Unit {0}) r
  any-direction (Ok down) = tt
  any-direction (Err f) = tt

  then-sorted : (more : Option Value) (xs : List Value) → Each (Of k) xs → Yields failing (Of (array k)) (SortsThen more xs)
  then-sorted more xs p =
      ThenIfOk-yields failing (λ (down : Bool). Unit {0}) (Of (array k)) (direction_of more) (λ down. Sorts down (own_answers xs)) (any-direction (direction_of more)) (λ down u. sorts-failing k (own_answers xs) (own-items xs p) down)

  no-sorting : Yields failing (Of (array k)) (λ a. a ≡ Err evaluation)
  no-sorting a is = subst (λ r. ResultIs failing (Of (array k)) r) (sym is) tt

  unsure : (vs : List Value) → HaveKindsThen (array k ∷ []) string vs → Yields failing (Of (array k)) (SortsItems vs)
  unsure [] h = absurd h
  unsure (v ∷ []) h = sorts-one failing v h.0 (then-sorted None)
  unsure (v ∷ w ∷ []) h = sorts-two failing v w h.0 (then-sorted (Some w))
  unsure (v ∷ w ∷ x ∷ more) h = no-sorting

integers-sort : (xs : List Value) → Each (Of integer) xs → AreAlike (own_answers xs)
integers-sort xs p = alike-integers (own_answers xs) (own-keys integer xs p)

strings-sort : (xs : List Value) → Each (Of string) xs → AreAlike (own_answers xs)
strings-sort xs p = alike-strings (own_answers xs) (own-keys string xs p)

pub sorts-hold : (k : Kind) → Each (OverloadHolds SortsItems) (on_sorting k)
sorts-hold k = (
  λ known vs h is. ascending integer integers-sort vs h,
  (
    λ known vs h is. ascending string strings-sort vs h,
    (
      λ known vs h is. directed integer integers-sort known vs h is,
      (
        λ known vs h is. directed string strings-sort known vs h is,
        (λ known vs h is. unsure k vs h, tt),
      ),
    ),
  ),
)
