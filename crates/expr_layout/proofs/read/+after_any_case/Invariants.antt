use Rattle.std.proofs.Common.{length}
use Rattle.expr_layout.proofs.read.+after_any_case.Given as goal

abbrev pub decreases-after_any_case : goal.decreases-after_any_case
decreases-after_any_case l = length l.name.now
