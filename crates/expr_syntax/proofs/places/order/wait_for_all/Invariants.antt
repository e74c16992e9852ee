use Rattle.std.proofs.Common.{◌≡◌, ◌++◌, map, take}
use Rattle.expr_syntax.specs.Places.{parts_in}
use Rattle.expr_syntax.specs.Waits.{waits}
use Rattle.expr_tree.specs.TermOf.{term_of}
use Rattle.expr_syntax.proofs.places.order.wait_for_all.Given as goal

abbrev pub invariant-loop-node : goal.invariant-loop-node
invariant-loop-node l = waits l.waiting.items ≡ waits l.initial.waiting.items ++ parts_in l.place (map term_of (take l.node-index l.nodes))
