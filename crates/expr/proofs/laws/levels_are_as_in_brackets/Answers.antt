use Rattle.expr.proofs.Bracketed.{all_bracketed}
use Rattle.expr.proofs.laws.levels_are_as_in_brackets.Goals as goal

pub returns : goal.returns
returns c = all_bracketed
