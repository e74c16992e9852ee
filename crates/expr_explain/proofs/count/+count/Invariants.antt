use Rattle.std.proofs.Common.{◌≡◌, ◌+◌, take}
use Rattle.expr_tree.proofs.Weights.{items_weight, named_weight}
use Rattle.expr_explain.proofs.count.+count.Given as goal

abbrev pub invariant-count_all-loop-node : goal.invariant-count_all-loop-node
invariant-count_all-loop-node l = l.count ≡ l.before + items_weight (take l.node-index l.nodes)

abbrev pub invariant-count_named-loop-name : goal.invariant-count_named-loop-name
invariant-count_named-loop-name l = l.count ≡ l.before + named_weight (take l._name-index l.named)
