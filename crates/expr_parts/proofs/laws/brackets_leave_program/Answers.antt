use Rattle.expr_parts.proofs.Inside.{same_program}
use Rattle.expr_parts.proofs.laws.brackets_leave_program.Goals as goal

pub returns-clause-inside : goal.returns-clause-inside
returns-clause-inside c = λ p at bracketed some. same_program at bracketed some p
