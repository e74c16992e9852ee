use Rattle.std.proofs.Common.{◌≡◌, ◌++◌, map, take}
use Rattle.expr_tree.specs.LentChildren.{lent_terms}
use Rattle.expr_tree.specs.TermOf.{term_of}
use Rattle.expr_tree.proofs.names.wait_for_all.Given as goal

abbrev pub invariant-loop-node : goal.invariant-loop-node
invariant-loop-node l = lent_terms l.waiting.items ≡ lent_terms l.initial.waiting.items ++ map term_of (take l.node-index l.nodes)
