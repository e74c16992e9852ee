use Rattle.std.proofs.Common.{◌≡◌, ◌++◌, map, take}
use Rattle.expr_tree.specs.LentChildren.{lent_terms}
use Rattle.expr_tree.specs.TermOf.{term_of}
use Rattle.expr_tree.proofs.names.wait_for_values.Given as goal

abbrev pub invariant-loop-name : goal.invariant-loop-name
invariant-loop-name l = lent_terms l.waiting.items ≡ lent_terms l.initial.waiting.items ++ map (λ n. term_of n.1) (take l._name-index l.named)
