use Rattle.std.proofs.Common.{◌≡◌}
use Rattle.expr_arguments.proofs.array.each_own.Given as goal

abbrev pub invariant-loop-item : goal.invariant-loop-item
invariant-loop-item l = l.held.items ≡ l.yielded
