use Rattle.std.proofs.Common.{◌≡◌, take}
use Rattle.std.specs.Int.{int_min}
use Rattle.std.specs.List.{fold}
use Rattle.expr_builtins.proofs.number.least_of.Given as goal

abbrev pub invariant-loop-i : goal.invariant-loop-i
invariant-loop-i l = l.least ≡ fold int_min l.initial.least (take l.i l.rest)
