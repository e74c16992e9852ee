use Rattle.std.proofs.Common.{◌+◌, ◌≤◌}
use Rattle.expr_tree.specs.Weight.{weight}
use Rattle.expr_tree.specs.TermOf.{term_of}
use Rattle.expr_tree.proofs.node.Node.hang.Given as goal

abbrev pub invariant-loop-first : goal.invariant-loop-first
invariant-loop-first l = weight (term_of l.node) + weight (term_of l.chain) ≤ weight (term_of l.fn.self) + weight (term_of l.fn.chain)

abbrev pub decreases-loop-first : goal.decreases-loop-first
decreases-loop-first l = weight (term_of l.node)
