use Rattle.expr_tokens.proofs.Inside.{fits_program}
use Rattle.expr_tokens.proofs.laws.brackets_fit.Goals as goal

pub returns-clause-inside : goal.returns-clause-inside
returns-clause-inside c = λ p at bracketed some. fits_program at bracketed some p
