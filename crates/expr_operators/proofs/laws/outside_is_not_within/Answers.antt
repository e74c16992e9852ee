use Rattle.expr_operators.specs.Operators.{operator_answer, verdict, belongs}
use Rattle.expr_operators.proofs.Opposites.{judged_opposite}
use Rattle.expr_operators.proofs.laws.outside_is_not_within.Goals as goal

pub returns : goal.returns
unfolding operator_answer verdict
returns c = λ a b. judged_opposite (belongs a b)
