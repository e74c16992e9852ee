use Rattle.std.proofs.Common.{◌≡◌, take}
use Rattle.expr_arguments.proofs.array.each_lent.Given as goal

abbrev pub invariant-loop-item : goal.invariant-loop-item
invariant-loop-item l = l.held.items ≡ take l.item-index l.items
