use Rattle.expr_meaning.proofs.Faults.{program_faults}
use Rattle.expr_meaning.proofs.laws.programs_refuse_to_evaluate.Goals as goal

pub returns : goal.returns
returns g c = λ host ctx program fault other no_pattern never. program_faults fault other no_pattern (g.H.Functions.host host) never ctx program
