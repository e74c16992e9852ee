use Rattle.std.proofs.Common.{◌≡◌}
use Rattle.expr_arguments.proofs.array.values_of_cows.Given as goal

abbrev pub invariant-loop-value : goal.invariant-loop-value
invariant-loop-value l = l.values.items ≡ l.yielded
