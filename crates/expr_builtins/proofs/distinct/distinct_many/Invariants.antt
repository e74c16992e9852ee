use Rattle.std.proofs.Common.{◌≡◌}
use Rattle.std.specs.Map.{keys_of}
use Rattle.expr_builtins.specs.Distinct.{distinct, keys_among}
use Rattle.expr_builtins.proofs.distinct.distinct_many.Given as goal

abbrev pub invariant-loop-item : goal.invariant-loop-item
invariant-loop-item l = (l.kept.items ≡ distinct l.yielded) × (keys_of l.keys ≡ keys_among l.kept.items)
