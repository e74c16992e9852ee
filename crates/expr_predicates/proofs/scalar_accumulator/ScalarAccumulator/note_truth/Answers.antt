use Rattle.std.proofs.Common.{◌≡◌, ℕ, [], Bool, false, not, cond, sym, subst}
use Rattle.expr_value.specs.declared.value.Value as value
use Rattle.expr_value.specs.declared.value.Value.{Value}
use Rattle.expr_predicates.specs.Accumulators.{ScalarRepresents}
use Rattle.expr_predicates.specs.Noting.{IsOut, ScalarNotes, Takes}
use Rattle.expr_predicates.specs.declared.run.Noted.{Noted}
use Rattle.expr_predicates.specs.declared.run.Noted.TheVariants as noted
use Rattle.expr_predicates.specs.declared.scalar_accumulator.ScalarAccumulator.{ScalarAccumulator}
use Rattle.expr_predicates.specs.declared.scalar_accumulator.ScalarAccumulator.TheVariants as scalar_accumulator
use Rattle.expr_predicates.proofs.Noting.{all_takes, any_takes, count_takes, none_takes, notes_as, place_takes}
use Rattle.expr_predicates.proofs.scalar_accumulator.ScalarAccumulator.note_truth.Goals as goal

noted_by : (place : ℕ) (old new : ScalarAccumulator) (v : Value) (self : ScalarAccumulator) (n : Noted) → self ≡ old → (is_last : Bool) → n ≡ cond is_last noted.Ends noted.Done
    → Takes (IsOut ScalarRepresents place) ScalarRepresents (λ k. ⊥) old new v [] is_last false → ScalarNotes place n self new v
noted_by place old new v self n is is_last e f =
    subst (λ s. ScalarNotes place n s new v) (sym is) (notes_as (IsOut ScalarRepresents place) ScalarRepresents (λ k. ⊥) old new v is_last n e f)

pub returns-in-Count : goal.returns-in-Count
returns-in-Count c =
    let taken = count_takes c.in-Count.count c.count_if.result c.args.truth c.args.place c.requires c.count_if.ensures in
    subst (λ s. Takes (IsOut ScalarRepresents c.args.place) ScalarRepresents (λ k. ⊥) s (scalar_accumulator.Count c.count_if.result) (value.Bool c.args.truth) [] false false) (sym c.in-Count.is) taken

pub returns-in-All : goal.returns-in-All
returns-in-All c = noted_by c.args.place (scalar_accumulator.All c.in-All.found) (scalar_accumulator.All (not c.args.truth)) (value.Bool c.args.truth) c.args.self.now c.noted_as.result c.in-All.is (not c.args.truth) c.noted_as.ensures (all_takes c.in-All.found c.args.truth c.args.place)

pub returns-in-Any : goal.returns-in-Any
returns-in-Any c = noted_by c.args.place (scalar_accumulator.Any c.in-Any.found) (scalar_accumulator.Any c.args.truth) (value.Bool c.args.truth) c.args.self.now c.noted_as-in-Any.result c.in-Any.is (c.args.truth) c.noted_as-in-Any.ensures (any_takes c.in-Any.found c.args.truth c.args.place)

pub returns-in-NoneOf : goal.returns-in-NoneOf
returns-in-NoneOf c = noted_by c.args.place (scalar_accumulator.NoneOf c.in-NoneOf.found) (scalar_accumulator.NoneOf c.args.truth) (value.Bool c.args.truth) c.args.self.now c.noted_as-in-NoneOf.result c.in-NoneOf.is (c.args.truth) c.noted_as-in-NoneOf.ensures (none_takes c.in-NoneOf.found c.args.truth c.args.place)

pub returns-in-FindIndex : goal.returns-in-FindIndex
returns-in-FindIndex c = noted_by c.args.place (scalar_accumulator.FindIndex c.in-FindIndex.found) (scalar_accumulator.FindIndex c.found_if.result) (value.Bool c.args.truth) c.args.self.now c.noted_as-in-FindIndex.result c.in-FindIndex.is (c.args.truth) c.noted_as-in-FindIndex.ensures (place_takes c.in-FindIndex.found c.found_if.result c.args.truth c.args.place c.found_if.ensures)
