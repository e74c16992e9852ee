use Rattle.expr_pairs.proofs.Noting.{ArePassed}
use Rattle.expr_pairs.proofs.places.spot_of.Given as goal

abbrev pub invariant-loop-rank : goal.invariant-loop-rank
invariant-loop-rank g l = ArePassed (g.Q.Equivalent.equivalent l.key) l.keys l.places l.hash l.rank
