use Rattle.expr_operators.proofs.Parts.{occurs_decides}
use Rattle.expr_operators.proofs.laws.part_stands_between_front_and_back.Goals as goal

pub returns : goal.returns
returns c = λ text part. occurs_decides part text
