use Rattle.std.proofs.Common.{◌≡◌}
use Rattle.expr_records.proofs.LineLemmas.{Reading}
use Rattle.expr_records.proofs.lines.next_line.Given as goal

abbrev pub invariant-loop : goal.invariant-loop
invariant-loop g l = Reading (g.R.Read.remaining l.fn.reader) (g.R.Read.remaining l.reader) l.held l.is_begun × (l.held.bound ≡ l.fn.held.bound)
