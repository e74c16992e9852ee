use Rattle.std.proofs.Common.{◌-◌, ◌≤◌, length}
use Rattle.std.specs.Prelude.{vec_capacity}
use Rattle.expr_stack.proofs.Off.{Off}
use Rattle.expr_stack.proofs.stack.Stack.take_values.Given as goal

abbrev pub invariant-loop-self : goal.invariant-loop-self
invariant-loop-self g l = record {
  off : Off l.kept l.fn.self l.self l.values.items;
  count : length l.values.items ≤ l.count;
  room : l.count ≤ vec_capacity l.values;
}

abbrev pub decreases-loop-self : goal.decreases-loop-self
decreases-loop-self g l = l.count - length l.values.items
