use Rattle.std.proofs.Common.{vec_len}
use Rattle.expr_syntax.proofs.places.placer.Placer.end_choices.Given as goal

abbrev pub decreases-loop-ended : goal.decreases-loop-ended
decreases-loop-ended l = vec_len l.self.opened
