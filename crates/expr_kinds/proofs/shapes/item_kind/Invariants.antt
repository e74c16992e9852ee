use Rattle.expr_kinds.proofs.shapes.item_kind.Given as goal

-- nothing need be known of the kind so far
abbrev pub invariant-loop-kind : goal.invariant-loop-kind
invariant-loop-kind l = Unit {0}
