use Rattle.expr_operators.specs.Operators.{operator_answer, verdict, equality}
use Rattle.expr_operators.proofs.Opposites.{judged_opposite}
use Rattle.expr_operators.proofs.laws.unequal_is_not_equal.Goals as goal

pub returns : goal.returns
unfolding operator_answer verdict
returns c = λ a b. judged_opposite (equality a b)
