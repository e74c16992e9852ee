use Rattle.std.proofs.Common.{vec_len}
use Rattle.expr_syntax.proofs.places.placer.Placer.settle.Given as goal

abbrev pub decreases-loop-begun : goal.decreases-loop-begun
decreases-loop-begun l = vec_len l.self.opened
