use Rattle.std.proofs.Common.{None}
use Rattle.expr_syntax.specs.Places.{parts_in}
use Rattle.expr_syntax.specs.Waits.{waits}
use Rattle.expr_tree.specs.Children.{block_children}
use Rattle.expr_tree.specs.TermOf.{program_term}
use Rattle.expr_tree.proofs.NodeChildren.{weight_of}
use Rattle.expr_syntax.proofs.Walking.{Meets, trees}
use Rattle.expr_syntax.proofs.places.order.in_order.Given as goal

abbrev pub invariant-loop-next : goal.invariant-loop-next
invariant-loop-next l = Meets l.text (parts_in None (block_children (program_term l.program))) l.places.items (waits l.waiting.items)

abbrev pub decreases-loop-next : goal.decreases-loop-next
decreases-loop-next l = weight_of (trees (waits l.waiting.items))
