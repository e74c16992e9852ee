-- Whether a run needs more results, and what it binds, by what it keeps.
use Rattle.std.proofs.Common.{◌≡◌, ◌+◌, List, [], ◌∷◌, ◌++◌, length, Bool, true, false, nat_lt, Option, Some, None, refl, sym, ap, ◌∙◌, zero-add}
use Rattle.std.proofs.lemmas.List.Sums.{fold-append}
use Rattle.std.specs.Option.{is_some, option_map}
use Rattle.expr_value.specs.declared.value.Value.{Value}
use Rattle.expr_predicates.specs.Accumulators.{Represents, RepresentsRest, RunRepresents, ScalarRepresents, ValuesRepresent}
use Rattle.expr_predicates.specs.Folds.{Fold, ItemAnswer, args_about, first_place, has_stopped, mapping, number, reducing, tells_acc, tells_index}
use Rattle.expr_predicates.specs.declared.run.Accumulator.{Accumulator}
use Rattle.expr_predicates.specs.declared.run.Accumulator.TheVariants as accumulator
use Rattle.expr_predicates.specs.declared.run.PredicateRun.{PredicateRun}
use Rattle.expr_predicates.specs.declared.scalar_accumulator.ScalarAccumulator.{ScalarAccumulator}
use Rattle.expr_predicates.specs.declared.scalar_accumulator.ScalarAccumulator.TheVariants as scalar_accumulator
use Rattle.expr_predicates.specs.declared.value_accumulator.ValueAccumulator.{ValueAccumulator}
use Rattle.expr_predicates.specs.declared.value_accumulator.ValueAccumulator.TheVariants as value_accumulator

-- it needs no more, by what it keeps
abbrev scalar_stops : ScalarAccumulator → Bool
scalar_stops (scalar_accumulator.All failed) = failed
scalar_stops (scalar_accumulator.Any found) = found
scalar_stops (scalar_accumulator.NoneOf found) = found
scalar_stops (scalar_accumulator.One n) = nat_lt 1 n
scalar_stops (scalar_accumulator.FindIndex found) = is_some found
scalar_stops (scalar_accumulator.FindLastIndex count found) = is_some found
scalar_stops k = false

abbrev values_stop : ValueAccumulator → Bool
values_stop (value_accumulator.Find found) = is_some found
values_stop k = false

abbrev gathered_stops : Accumulator → Bool
gathered_stops (accumulator.Scalar k) = scalar_stops k
gathered_stops (accumulator.Values k) = values_stop k

scalar_by : (k : ScalarAccumulator) (t : Fold) (rs : List ItemAnswer) → ScalarRepresents k t rs → has_stopped t rs ≡ scalar_stops k
scalar_by (scalar_accumulator.All failed) t rs h = ap (λ u. has_stopped u rs) h.0 ∙ sym h.1
scalar_by (scalar_accumulator.Any found) t rs h = ap (λ u. has_stopped u rs) h.0 ∙ sym h.1
scalar_by (scalar_accumulator.NoneOf found) t rs h = ap (λ u. has_stopped u rs) h.0 ∙ sym h.1
scalar_by (scalar_accumulator.One n) t rs h = ap (λ u. has_stopped u rs) h.0 ∙ ap (nat_lt 1) (sym h.1)
scalar_by (scalar_accumulator.FindIndex found) t rs h = ap (λ u. has_stopped u rs) h.0 ∙ ap is_some (sym h.1)
scalar_by (scalar_accumulator.FindLastIndex count found) t rs h = ap (λ u. has_stopped u rs) h.0 ∙ ap is_some (sym h.1)
scalar_by (scalar_accumulator.Count n) t rs h = ap (λ u. has_stopped u rs) h.0
scalar_by (scalar_accumulator.Sum n) t rs h = ap (λ u. has_stopped u rs) h.0

some_mapped : {X Y : Type 0} (f : X → Y) (o : Option X) → is_some (option_map f o) ≡ is_some o
some_mapped f None = refl
some_mapped f (Some x) = refl

values_by : (k : ValueAccumulator) (t : Fold) (rs : List ItemAnswer) → ValuesRepresent k t rs → has_stopped t rs ≡ values_stop k
values_by (value_accumulator.Map values) t rs h = ap (λ u. has_stopped u rs) h.0
values_by (value_accumulator.Filter values) t rs h = ap (λ u. has_stopped u rs) h.0
values_by (value_accumulator.Find found) t rs h = ap (λ u. has_stopped u rs) h.0 ∙ sym (ap is_some h.1 ∙ some_mapped (λ (r : ItemAnswer). r.0) _)
values_by (value_accumulator.Reduce acc) t rs h = ap (λ u. has_stopped u rs) h.2
values_by (value_accumulator.GroupBy pairs) t rs h = ap (λ u. has_stopped u rs) h.0
values_by (value_accumulator.SortBy down pairs composite) t rs h = ap (λ u. has_stopped u rs) h.0

stops_by : (g : Accumulator) (t : Fold) (rs : List ItemAnswer) → Represents g t rs → has_stopped t rs ≡ gathered_stops g
stops_by (accumulator.Scalar k) t rs h = scalar_by k t rs h
stops_by (accumulator.Values k) t rs h = values_by k t rs h

-- whatever results stand for a run, they agree on whether it needs more
pub stops_alike : (run : PredicateRun) (t u : Fold) (rs ss : List ItemAnswer) → RunRepresents run t rs → RunRepresents run u ss → has_stopped t rs ≡ has_stopped u ss
stops_alike run t u rs ss h i = stops_by run.gathered t rs h.gathered ∙ sym (stops_by run.gathered u ss i.gathered)

-- the index and the last result that are bound beside an item
pub index_told : (t : Fold) (rs : List ItemAnswer) (x : Value) → tells_index t ≡ true → (args_about t rs x).index ≡ Some (number (first_place t + length rs))
index_told mapping rs x e = ap (λ n. Some (number n)) (sym (zero-add (length rs)))
index_told (reducing init first) rs x e = refl
index_told t rs x e = cc

pub acc_told : (t : Fold) (rs : List ItemAnswer) (x y v : Value) → tells_acc t ≡ true → (args_about t (rs ++ (y, v) ∷ []) x).acc ≡ Some v
acc_told (reducing init first) rs x y v e = ap (λ a. Some a) (fold-append (λ (a : Value) (r : ItemAnswer). r.1) init rs ((y, v) ∷ []))
acc_told t rs x y v e = cc

-- what tells the last result tells the index
pub acc_tells_index : (t : Fold) → tells_acc t ≡ true → tells_index t ≡ true
acc_tells_index (reducing init first) e = refl
acc_tells_index t e = cc

-- what stands for what is kept stands for it while an item is out
pub represents_rest : (g : Accumulator) (t : Fold) (rs : List ItemAnswer) → Represents g t rs → RepresentsRest g t rs
represents_rest (accumulator.Scalar k) t rs h = h
represents_rest (accumulator.Values (value_accumulator.Reduce acc)) t rs h = (h.0, h.1, h.2)
represents_rest (accumulator.Values (value_accumulator.Map values)) t rs h = h
represents_rest (accumulator.Values (value_accumulator.Filter values)) t rs h = h
represents_rest (accumulator.Values (value_accumulator.Find found)) t rs h = h
represents_rest (accumulator.Values (value_accumulator.GroupBy pairs)) t rs h = h
represents_rest (accumulator.Values (value_accumulator.SortBy down pairs composite)) t rs h = h
