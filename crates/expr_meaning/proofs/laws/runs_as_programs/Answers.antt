use Rattle.expr_meaning.proofs.laws.runs_as_programs.Goals as goal
use Rattle.expr_meaning.proofs.Correct.{exact_code}
use Rattle.expr_meaning.specs.World.{world_of}

pub returns : goal.returns
returns g c = λ host ctx b blocks is. exact_code (world_of (g.H.Functions.host host) ctx) b blocks is
