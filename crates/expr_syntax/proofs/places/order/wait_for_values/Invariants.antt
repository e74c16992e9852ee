use Rattle.std.proofs.Common.{◌≡◌, ◌++◌, map, take}
use Rattle.expr_syntax.specs.Places.{parts_in}
use Rattle.expr_syntax.specs.Waits.{waits}
use Rattle.expr_tree.specs.TermOf.{term_of}
use Rattle.expr_syntax.proofs.places.order.wait_for_values.Given as goal

abbrev pub invariant-loop-name : goal.invariant-loop-name
invariant-loop-name l = waits l.waiting.items ≡ waits l.initial.waiting.items ++ parts_in l.place (map (λ n. term_of n.1) (take l._name-index l.named))
