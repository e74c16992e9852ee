use Rattle.std.proofs.Common.{length}
use Rattle.expr_schema.proofs.reader.Reader.skip_gap.Given as goal

abbrev pub decreases-loop-first : goal.decreases-loop-first
decreases-loop-first l = length l.self.rest.now
