use Rattle.std.proofs.Common.{◌≡◌, ◌+◌, take}
use Rattle.expr_costs.specs.Measures.{all_byte_units}
use Rattle.expr_costs.proofs.arguments.all_byte_units.Given as goal

abbrev pub invariant-loop-argument : goal.invariant-loop-argument
invariant-loop-argument l = all_byte_units (take l.argument-index l.arguments) + l.left ≡ l.bound
