use Rattle.std.proofs.Common.{None, Some, refl, sym, ap, ◌∙◌}
use Rattle.expr_value.specs.Values.{string_of}
use Rattle.expr_arguments.specs.Arrays.{array_items}
use Rattle.expr_predicates.specs.Calls.{direction_named, sort_in_direction}
use Rattle.expr_predicates.specs.Folds.{reducing, sorting}
use Rattle.expr_functions.specs.declared.functions.HigherOrderCall.TheVariants as higher_order_call
use Rattle.expr_predicates.specs.declared.run.Accumulator.TheVariants as accumulator
use Rattle.expr_predicates.specs.declared.value_accumulator.ValueAccumulator.TheVariants as value_accumulator
use Rattle.expr_predicates.proofs.FoldStarts.{begun_as, same_ok}
use Rattle.expr_predicates.proofs.run.PredicateRun.over_array_with.Goals as goal

pub returns-in-Reduce-clause-begun : goal.returns-in-Reduce-clause-begun
returns-in-Reduce-clause-begun c =
    let init = c.in_ok-init-in-Reduce.init in
    let same = same_ok init c.args.more (sym c.in_ok-init-in-Reduce.ensures.answer) in
    begun_as c.args.call (array_items c.args.array) (Some c.args.more) c.forward.result higher_order_call.Reduce (reducing c.args.more 0) (array_items c.args.array) (accumulator.Values (value_accumulator.Reduce init)) c.in-Reduce.is refl c.forward.ensures.left c.forward.ensures.asked c.forward.ensures.gathered (c.args.more, 0, refl, same)

pub returns-in-SortBy-clause-begun : goal.returns-in-SortBy-clause-begun
returns-in-SortBy-clause-begun c =
    let down = c.in_ok-down-in-SortBy.down in
    begun_as c.args.call (array_items c.args.array) (Some c.args.more) c.forward-in-SortBy.result higher_order_call.SortBy (sorting down) (array_items c.args.array) (accumulator.Values (value_accumulator.SortBy down c.new.result None)) c.in-SortBy.is
    (ap (λ v. sort_in_direction (array_items c.args.array) (direction_named (string_of v))) (sym c.get.ensures) ∙ ap (sort_in_direction (array_items c.args.array)) c.in_ok-down-in-SortBy.ensures) c.forward-in-SortBy.ensures.left c.forward-in-SortBy.ensures.asked c.forward-in-SortBy.ensures.gathered (refl, c.new.ensures.items)
