use Rattle.std.proofs.Common.{◌+◌, ◌≤◌}
use Rattle.expr_tree.proofs.Weights.{node_weight, items_weight}
use Rattle.expr_tree.proofs.chain.hung_items.Given as goal

abbrev pub invariant-loop-item : goal.invariant-loop-item
invariant-loop-item l = node_weight l.chain + items_weight l.items.items ≤ items_weight l.initial.items.items + node_weight l.initial.chain

abbrev pub decreases-loop-item : goal.decreases-loop-item
decreases-loop-item l = goal.left-loop-item l
