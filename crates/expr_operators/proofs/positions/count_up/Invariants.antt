use Rattle.std.proofs.Common.{◌≡◌, pos, ◌+ℤ◌, ◌≤ℤ◌, length}
use Rattle.std.specs.Vec.{vec_len, vec_capacity}
use Rattle.expr_operators.specs.Positions.{in_a_row}
use Rattle.expr_operators.proofs.positions.count_up.Given as goal

abbrev pub invariant-loop-integer : goal.invariant-loop-integer
invariant-loop-integer l = record {
  next : l.integer ≡ l.first +ℤ pos (length l.integers.items);
  row : l.integers.items ≡ in_a_row l.first (length l.integers.items);
  within : l.integer ≤ℤ l.last;
  long : vec_len l.integers ≡ length l.integers.items;
  room : l.last +ℤ pos 1 ≡ l.first +ℤ pos (vec_capacity l.integers);
}
