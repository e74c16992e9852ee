use Rattle.std.proofs.Common.{reverse, Ok, None, refl, sym, ap}
use Rattle.expr_arguments.specs.Arrays.{array_items}
use Rattle.expr_predicates.specs.Folds.{finding, finding_last_place}
use Rattle.expr_functions.specs.declared.functions.HigherOrderCall.TheVariants as higher_order_call
use Rattle.expr_predicates.specs.declared.run.Accumulator.TheVariants as accumulator
use Rattle.expr_predicates.specs.declared.scalar_accumulator.ScalarAccumulator.TheVariants as scalar_accumulator
use Rattle.expr_predicates.specs.declared.value_accumulator.ValueAccumulator.TheVariants as value_accumulator
use Rattle.expr_predicates.proofs.FoldStarts.{begun_as}
use Rattle.expr_predicates.proofs.run.PredicateRun.over_array.Goals as goal

pub returns-in-FindLast-clause-begun : goal.returns-in-FindLast-clause-begun
returns-in-FindLast-clause-begun c =
    begun_as c.args.call (array_items c.args.array) None c.backward.result higher_order_call.FindLast finding (reverse (array_items c.args.array)) (accumulator.Values (value_accumulator.Find None)) c.in-FindLast.is refl c.backward.ensures.left c.backward.ensures.asked c.backward.ensures.gathered (refl, refl)

pub returns-in-FindLastIndex-clause-begun : goal.returns-in-FindLastIndex-clause-begun
returns-in-FindLastIndex-clause-begun c =
    begun_as c.args.call (array_items c.args.array) None c.backward-in-FindLastIndex.result higher_order_call.FindLastIndex (finding_last_place c.count_items-count.result) (reverse (array_items c.args.array)) (accumulator.Scalar (scalar_accumulator.FindLastIndex c.count_items-count.result None)) c.in-FindLastIndex.is (ap (λ n. Ok (record { fold = finding_last_place n; items = reverse (array_items c.args.array) })) (sym c.count_items-count.ensures)) c.backward-in-FindLastIndex.ensures.left c.backward-in-FindLastIndex.ensures.asked c.backward-in-FindLastIndex.ensures.gathered (refl, refl)
