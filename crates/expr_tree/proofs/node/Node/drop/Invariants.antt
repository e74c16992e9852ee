use Rattle.expr_tree.specs.Weight.{weight}
use Rattle.expr_tree.specs.TermOf.{term_of}
use Rattle.expr_tree.proofs.node.Node.drop.Given as goal

abbrev pub decreases-loop-rest : goal.decreases-loop-rest
decreases-loop-rest l = weight (term_of l.chain)
