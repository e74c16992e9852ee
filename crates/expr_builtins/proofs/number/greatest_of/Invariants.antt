use Rattle.std.proofs.Common.{◌≡◌, take}
use Rattle.std.specs.Int.{int_max}
use Rattle.std.specs.List.{fold}
use Rattle.expr_builtins.proofs.number.greatest_of.Given as goal

abbrev pub invariant-loop-i : goal.invariant-loop-i
invariant-loop-i l = l.greatest ≡ fold int_max l.initial.greatest (take l.i l.rest)
