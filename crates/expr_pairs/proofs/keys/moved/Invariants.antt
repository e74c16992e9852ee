use Rattle.std.proofs.Common.{◌≡◌, ◌++◌, ◌≤◌, length, vec_capacity}
use Rattle.expr_pairs.proofs.keys.moved.Given as goal

abbrev pub invariant-loop-key : goal.invariant-loop-key
invariant-loop-key g l =
    (goal.iterator-loop-key g).can_next l.key-iterator ×
    (goal.iterator-loop-key g).is_finite l.key-iterator ×
    (l.keys.items ++ l.key-iterator ≡ l.fn.table.keys) ×
    (length l.fn.table.keys ≤ vec_capacity l.keys)
