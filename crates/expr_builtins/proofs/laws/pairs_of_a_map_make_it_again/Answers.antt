use Rattle.expr_builtins.proofs.PairsBack.{back}
use Rattle.expr_builtins.proofs.laws.pairs_of_a_map_make_it_again.Goals as goal

pub returns : goal.returns
returns c = back
