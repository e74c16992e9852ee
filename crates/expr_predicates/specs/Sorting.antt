-- Items sorted by key.
use Rattle.std.specs.Prelude.{◌≡◌, Bool, true, false, ◌||◌, List, map, unwrap_or, Ok, Err, MatchBool, if◌then◌else◌}
use Rattle.std.specs.List.{list_all}
use Rattle.std.specs.List.Sorted.{IsPermutation, IsSortedBy, IsStableBy}
use Rattle.std.specs.Ordering.{is_lt}
use Rattle.expr_error.specs.ErrorKind.{evaluation}
use Rattle.expr_value.specs.Keys.{key_cmp}
use Rattle.expr_value.specs.Values.{key_of}
use Rattle.expr_value.specs.declared.key.Key.{Key}
use Rattle.expr_value.specs.declared.value.Value as value
use Rattle.expr_value.specs.declared.value.Value.{Value}
use Rattle.expr_value.specs.Answers.{Answer}

-- the key that a result is. A result that is no scalar can't be a key; it is nil here, which can't be sorted either.
abbrev pub sort_key : Value → Key
sort_key v = unwrap_or (key_of v) Key.Nil

-- the items with their keys
abbrev pub beside_keys : List (Value × Value) → List (Key × Value)
beside_keys rs = map (λ r. (sort_key r.1, r.0)) rs

abbrev pub is_integer : Key → Bool
is_integer (Key.Integer n) = true
is_integer k = false

abbrev pub is_text : Key → Bool
is_text (Key.String s) = true
is_text k = false

module _ {X : Type 0} where
  -- the keys are all integers or all strings
  abbrev pub are_alike : List (Key × X) → Bool
  are_alike ps = list_all (λ p. is_integer p.0) ps || list_all (λ p. is_text p.0) ps

  -- whether one is before another: integers by size and strings by bytes, ascending or descending
  abbrev pub rises : Key × X → Key × X → Bool
  rises p q = is_lt (key_cmp p.0 q.0)

  abbrev pub precedes : Bool → Key × X → Key × X → Bool
  precedes down p q = if down then rises q p else rises p q

  -- the same items sorted by key. Items with equal keys keep their order.
  pub record IsSorting (down : Bool) (before after : List (Key × X)) : Type 0 where
    pub permutation : IsPermutation before after
    pub sorted : IsSortedBy (precedes down) after
    pub stable : IsStableBy (precedes down) before after

abbrev pub SortsPairs : Bool → List (Key × Value) → Answer → Type 0
SortsPairs down ps answer =
    MatchBool (are_alike ps) ((qs : List (Key × Value)) × IsSorting down ps qs × (answer ≡ Ok (value.Array (map (λ p. p.1) qs)))) (answer ≡ Err evaluation)

abbrev pub Sorts : Bool → List (Value × Value) → Answer → Type 0
Sorts down rs answer = SortsPairs down (beside_keys rs) answer

-- items as keys, without values
abbrev pub own_keys : List Value → List (Key × Unit {0})
own_keys xs = map (λ x. (sort_key x, tt)) xs

-- the items are all integers or all strings
abbrev pub items_alike : List Value → Bool
items_alike xs = list_all (λ x. is_integer (sort_key x)) xs || list_all (λ x. is_text (sort_key x)) xs

-- items, each with itself as the result for it
abbrev pub own_answers : List Value → List (Value × Value)
own_answers xs = map (λ x. (x, x)) xs
