use Rattle.std.proofs.Common.{◌+◌, ◌≤◌}
use Rattle.expr_tree.proofs.Weights.{node_weight, named_weight}
use Rattle.expr_tree.proofs.chain.hung_lines.Given as goal

abbrev pub invariant-loop-name : goal.invariant-loop-name
invariant-loop-name l = node_weight l.chain + named_weight l.lines.items ≤ named_weight l.initial.lines.items + node_weight l.initial.chain

abbrev pub decreases-loop-name : goal.decreases-loop-name
decreases-loop-name l = goal.left-loop-name l
