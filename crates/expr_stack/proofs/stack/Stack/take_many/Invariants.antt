use Rattle.std.proofs.Common.{◌≡◌, ◌-◌, ◌≤◌, length, reverse, take}
use Rattle.std.specs.Prelude.{option_map, vec_capacity}
use Rattle.expr_stack.specs.Cells.{first_lent}
use Rattle.expr_stack.proofs.Off.{Off}
use Rattle.expr_stack.proofs.stack.Stack.take_many.Given as goal

abbrev pub invariant-loop-lent : goal.invariant-loop-lent
invariant-loop-lent g l = record {
  off : Off l.kept l.fn.self l.self l.values.items;
  lent : option_map (λ items. items.now) l.lent ≡ first_lent (reverse (take (length l.values.items) l.fn.self));
  count : length l.values.items ≤ l.count;
  room : l.count ≤ vec_capacity l.values;
}

abbrev pub decreases-loop-lent : goal.decreases-loop-lent
decreases-loop-lent g l = l.count - length l.values.items
