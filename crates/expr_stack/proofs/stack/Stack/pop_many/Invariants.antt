use Rattle.std.proofs.Common.{◌-◌, ◌≤◌, length}
use Rattle.std.specs.Prelude.{vec_capacity}
use Rattle.expr_stack.proofs.Off.{Off}
use Rattle.expr_stack.proofs.stack.Stack.pop_many.Given as goal

abbrev pub invariant-loop-values : goal.invariant-loop-values
invariant-loop-values g l = record {
  off : Off l.kept l.fn.self l.self l.values.items;
  count : length l.values.items ≤ l.count;
  room : l.count ≤ vec_capacity l.values;
}

abbrev pub decreases-loop-values : goal.decreases-loop-values
decreases-loop-values g l = l.count - length l.values.items
