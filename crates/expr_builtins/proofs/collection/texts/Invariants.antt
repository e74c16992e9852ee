use Rattle.std.proofs.Common.{◌≡◌, map, take, Some}
use Rattle.expr_value.specs.Values.{string_of}
use Rattle.expr_arguments.specs.Arguments.{all_of}
use Rattle.expr_builtins.proofs.collection.texts.Given as goal

abbrev pub invariant-loop-i : goal.invariant-loop-i
invariant-loop-i l = all_of string_of (take l.i l.items) ≡ Some (map (λ t. t.now) l.parts.items)
