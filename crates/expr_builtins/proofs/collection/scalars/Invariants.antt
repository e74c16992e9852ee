use Rattle.std.proofs.Common.{◌≡◌, map, take}
use Rattle.expr_value.specs.Values.{of_key}
use Rattle.expr_builtins.proofs.collection.scalars.Given as goal

abbrev pub invariant-loop-i : goal.invariant-loop-i
invariant-loop-i l = l.items.items ≡ map of_key (take l.i l.keys)
