use Rattle.expr_tree.specs.LentChildren.{lent_terms}
use Rattle.expr_tree.specs.TermOf.{program_term}
use Rattle.expr_tree.proofs.NodeChildren.{weight_of}
use Rattle.expr_tree.proofs.Waiting.{Seeks}
use Rattle.expr_tree.proofs.names.env_is_within.Given as goal

abbrev pub invariant-loop-node : goal.invariant-loop-node
invariant-loop-node l = Seeks (lent_terms l.waiting.items) (program_term l.program)

abbrev pub decreases-loop-node : goal.decreases-loop-node
decreases-loop-node l = weight_of (lent_terms l.waiting.items)
