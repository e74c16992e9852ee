use Rattle.std.proofs.Common.{◌≡◌}
use Rattle.expr_builtins.specs.Distinct.{distinct}
use Rattle.expr_builtins.proofs.distinct.distinct_few.Given as goal

abbrev pub invariant-loop-item : goal.invariant-loop-item
invariant-loop-item l = l.kept.items ≡ distinct l.yielded
