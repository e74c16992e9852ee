use Rattle.expr_predicates.specs.Grouped.{IsGrouping}
use Rattle.expr_predicates.proofs.grouping.group_by_key.Given as goal

abbrev pub invariant-loop-key : goal.invariant-loop-key
invariant-loop-key l = IsGrouping l.groups l.yielded
