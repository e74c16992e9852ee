use Rattle.std.proofs.Common.{length, ◌-◌}
use Rattle.expr_syntax.proofs.Weighing.{WeighedTo}
use Rattle.expr_syntax.proofs.bounded.is_light.Given as goal

abbrev pub invariant-loop-token : goal.invariant-loop-token
invariant-loop-token l = WeighedTo l.code l.patterns l.at l.left l.is_behind

abbrev pub decreases-loop-token : goal.decreases-loop-token
decreases-loop-token l = length l.code - l.at
