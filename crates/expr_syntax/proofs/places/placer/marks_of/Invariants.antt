use Rattle.std.proofs.Common.{length, ◌-◌}
use Rattle.expr_syntax.proofs.places.placer.marks_of.Given as goal

abbrev pub decreases-loop-seen : goal.decreases-loop-seen
decreases-loop-seen l = length l.text - l.at
