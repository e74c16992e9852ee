use Rattle.std.proofs.Common.{◌≡◌, map, take}
use Rattle.expr_value.specs.declared.value.Value as value
use Rattle.expr_builtins.proofs.collection.names.Given as goal

abbrev pub invariant-loop-i : goal.invariant-loop-i
invariant-loop-i l = l.items.items ≡ map value.String (take l.i l.names)
