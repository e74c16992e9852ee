use Rattle.expr_kinds.proofs.builtins.builtin_checked.Given as goal

-- nothing need be known of the rows before
abbrev pub invariant-loop-row : goal.invariant-loop-row
invariant-loop-row l = Unit {0}
