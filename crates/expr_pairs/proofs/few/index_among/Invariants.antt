use Rattle.expr_pairs.proofs.Compared.{NonePassesBefore}
use Rattle.expr_pairs.proofs.few.index_among.Given as goal

abbrev pub invariant-loop-at : goal.invariant-loop-at
invariant-loop-at g l = NonePassesBefore (g.Q.Equivalent.equivalent l.key) l.keys l.at
