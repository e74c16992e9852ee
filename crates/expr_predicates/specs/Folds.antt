-- What a built-in makes of the items and of the predicate's results.
use Rattle.std.specs.Prelude.{◌≡◌, ℕ, ◌+◌, ◌-◌, ◌==◌, ℤ, pos, negsuc, nat_lt, Bool, true, false, not, List, [], ◌∷◌, length, map, count_by, Option, Some, None, option_map, unwrap_or, Ok, if◌then◌else◌}
use Rattle.std.specs.Int.{w64, int_wrapping_add, cast_signed}
use Rattle.std.specs.List.{filter, filter_map, find, fold, list_any, position_from}
use Rattle.std.specs.Option.{is_some, option_or}
use Rattle.expr_value.specs.FirstPlaces.{first_places}
use Rattle.expr_value.specs.Keys.{key_eq}
use Rattle.expr_value.specs.Values.{integer_of, key_of, truth_of}
use Rattle.expr_value.specs.declared.key.Key.{Key}
use Rattle.expr_value.specs.declared.value.Value as value
use Rattle.expr_value.specs.declared.value.Value.{Value}
use Rattle.expr_value.specs.Answers.{Answer}
use Rattle.expr_predicates.specs.Sorting.{Sorts}
use Rattle.expr_functions.specs.declared.functions.HigherOrderCall.{HigherOrderCall}
use Rattle.expr_functions.specs.declared.functions.HigherOrderCall.TheVariants as higher_order_call
use Rattle.expr_context.specs.Told.{PredicateArgsView}

-- the kind of fold
pub data Fold : Type 0 where
  all_hold : Fold
  any_holds : Fold
  none_holds : Fold
  one_holds : Fold
  mapping : Fold
  filtering : Fold
  finding : Fold
  finding_place : Fold
  -- from the last item to the first, of this many
  finding_last_place : (count : ℕ) → Fold
  counting : Fold
  summing : Fold
  -- the initial value of `#acc`, and the index of the first item that the predicate is called for
  reducing : (init : Value) (first : ℕ) → Fold
  grouping : Fold
  sorting : (down : Bool) → Fold

-- the folds on an array alone, from first to last, that keep neither items nor results
abbrev pub scalar_fold : HigherOrderCall → Option Fold
scalar_fold higher_order_call.All = Some all_hold
scalar_fold higher_order_call.Any = Some any_holds
scalar_fold higher_order_call.NoneOf = Some none_holds
scalar_fold higher_order_call.One = Some one_holds
scalar_fold higher_order_call.FindIndex = Some finding_place
scalar_fold higher_order_call.Count = Some counting
scalar_fold higher_order_call.Sum = Some summing
scalar_fold b = None

-- those that keep items or results
abbrev pub values_fold : HigherOrderCall → Option Fold
values_fold higher_order_call.Map = Some mapping
values_fold higher_order_call.Filter = Some filtering
values_fold higher_order_call.Find = Some finding
values_fold higher_order_call.GroupBy = Some grouping
values_fold higher_order_call.SortBy = Some (sorting false)
values_fold b = None

-- either of the two
abbrev pub front_fold : HigherOrderCall → Option Fold
front_fold b = option_or (scalar_fold b) (values_fold b)

-- an item, and the predicate's result for it
abbrev pub ItemAnswer : Type 0
ItemAnswer = Value × Value

abbrev pub holds : ItemAnswer → Bool
holds r = unwrap_or (truth_of r.1) false

abbrev pub fails : ItemAnswer → Bool
fails r = not (unwrap_or (truth_of r.1) true)

-- a count or an index, as an integer
abbrev pub number : ℕ → Value
number n = value.Integer (cast_signed w64 n)

-- the last result, or the initial value of `#acc`
abbrev pub acc_after : Value → List ItemAnswer → Value
acc_after init rs = fold (λ before r. r.1) init rs

-- index of the first item that the predicate is called for
abbrev pub first_place : Fold → ℕ
first_place (reducing init first) = first
first_place t = 0

-- whether the index is bound beside an item, and whether the last result is
abbrev pub tells_index : Fold → Bool
tells_index mapping = true
tells_index (reducing init first) = true
tells_index t = false

abbrev pub tells_acc : Fold → Bool
tells_acc (reducing init first) = true
tells_acc t = false

-- the arguments of the predicate for an item after these results
abbrev pub args_about : Fold → List ItemAnswer → Value → PredicateArgsView
args_about mapping rs x = record { item = x; index = Some (number (length rs)); acc = None }
args_about (reducing init first) rs x = record { item = x; index = Some (number (first + length rs)); acc = Some (acc_after init rs) }
args_about t rs x = record { item = x; index = None; acc = None }

-- whether no more results are needed after these
abbrev pub has_stopped : Fold → List ItemAnswer → Bool
has_stopped all_hold rs = list_any fails rs
has_stopped any_holds rs = list_any holds rs
has_stopped none_holds rs = list_any holds rs
has_stopped one_holds rs = nat_lt 1 (count_by holds rs)
has_stopped finding rs = is_some (find holds rs)
has_stopped finding_place rs = is_some (position_from holds 0 rs)
has_stopped (finding_last_place count) rs = is_some (position_from holds 0 rs)
has_stopped t rs = false

-- whether a result is rejected
abbrev pub refuses_answer : Fold → Value → Bool
refuses_answer counting v = not (is_some (truth_of v))
refuses_answer summing v = not (is_some (integer_of v))
refuses_answer grouping v = not (is_some (key_of v))
refuses_answer t v = false

-- what is kept of a result: the result, the item, both, or nothing
abbrev pub retained_of : Fold → ItemAnswer → List Value
retained_of mapping r = r.1 ∷ []
retained_of filtering r = if holds r then r.0 ∷ [] else []
retained_of finding r = if holds r then r.0 ∷ [] else []
retained_of (reducing init first) r = r.1 ∷ []
retained_of grouping r = r.0 ∷ r.1 ∷ []
retained_of (sorting down) r = r.0 ∷ r.1 ∷ []
retained_of t r = []

-- and what is kept before the first
abbrev pub retained_first : Fold → List Value
retained_first (reducing init first) = init ∷ []
retained_first t = []

-- whether what is kept of a result replaces all that was kept before
abbrev pub replaces : Fold → Bool
replaces (reducing init first) = true
replaces t = false

abbrev pub place_or_none : Option ℕ → Value
place_or_none (Some n) = number n
place_or_none None = value.Integer (negsuc 0)

-- the sum of the results, which wraps at 64 bits
abbrev pub total : List ItemAnswer → ℤ
total rs = fold (λ n r. int_wrapping_add w64 n (unwrap_or (integer_of r.1) (pos 0))) (pos 0) rs

-- the items, with the results as their keys
abbrev pub items_by_key : List ItemAnswer → List (Key × Value)
items_by_key rs = filter_map (λ r. option_map (λ k. (k, r.0)) (key_of r.1)) rs

-- each key once, as first seen and in that order, with the items that have it
abbrev pub groups_of : List (Key × Value) → List (Key × Value)
groups_of ps = map (λ k. (k, value.Array (map (λ p. p.1) (filter (λ p. key_eq k p.0) ps)))) (first_places key_eq (map (λ p. p.0) ps))

-- the value of the call, except for sorting
abbrev pub fold_outcome : Fold → List ItemAnswer → Value
fold_outcome all_hold rs = value.Bool (not (list_any fails rs))
fold_outcome any_holds rs = value.Bool (list_any holds rs)
fold_outcome none_holds rs = value.Bool (not (list_any holds rs))
fold_outcome one_holds rs = value.Bool (count_by holds rs == 1)
fold_outcome mapping rs = value.Array (map (λ r. r.1) rs)
fold_outcome filtering rs = value.Array (map (λ r. r.0) (filter holds rs))
fold_outcome finding rs = unwrap_or (option_map (λ r. r.0) (find holds rs)) value.Nil
fold_outcome finding_place rs = place_or_none (position_from holds 0 rs)
fold_outcome (finding_last_place count) rs = place_or_none (option_map (λ n. count - 1 - n) (position_from holds 0 rs))
fold_outcome counting rs = number (count_by holds rs)
fold_outcome summing rs = value.Integer (total rs)
fold_outcome (reducing init first) rs = acc_after init rs
fold_outcome grouping rs = value.KeyedMap (groups_of (items_by_key rs))
fold_outcome (sorting down) rs = value.Nil

abbrev pub FoldOutcome : Fold → List ItemAnswer → Answer → Type 0
FoldOutcome (sorting down) rs answer = Sorts down rs answer
FoldOutcome t rs answer = answer ≡ Ok (fold_outcome t rs)
