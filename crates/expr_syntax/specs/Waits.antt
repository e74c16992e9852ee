-- The nodes that a walk is still to meet, as trees.
use Rattle.std.specs.Prelude.{List, map}
use Rattle.expr_syntax.specs.Places.{Part}
use Rattle.expr_syntax.specs.declared.places.order.Waiting.{Waiting}
use Rattle.expr_tree.specs.TermOf.{term_of}

abbrev pub waits : List Waiting → List Part
waits ws = map (λ w. (w.within, term_of w.node.now)) ws
