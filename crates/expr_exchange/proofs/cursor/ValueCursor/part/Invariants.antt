use Rattle.std.proofs.Common.{◌≡◌, drop}
use Rattle.expr_exchange.specs.Cursor.{part_at}
use Rattle.expr_exchange.proofs.cursor.ValueCursor.part.Given as goal

-- what the rest of the way leads to from the part, the whole way does from the whole
abbrev pub invariant-loop-place : goal.invariant-loop-place
invariant-loop-place l = part_at l.part (drop l.place-index l.place-items) ≡ part_at l.self.whole l.place-items
