use Rattle.std.proofs.Common.{◌≡◌, take, Some}
use Rattle.expr_value.specs.Values.{integer_of}
use Rattle.expr_arguments.specs.Arguments.{all_of}
use Rattle.expr_builtins.proofs.number.integers.Given as goal

abbrev pub invariant-loop-i : goal.invariant-loop-i
invariant-loop-i l = all_of integer_of (take l.i l.values) ≡ Some l.numbers.items
