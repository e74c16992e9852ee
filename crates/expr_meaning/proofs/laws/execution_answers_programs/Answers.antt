use Rattle.expr_meaning.proofs.laws.execution_answers_programs.Goals as goal
use Rattle.expr_meaning.proofs.Contracts.{executed_allowed}
use Rattle.expr_meaning.specs.World.{world_of}

pub returns : goal.returns
returns g c = λ host ctx b blocks r is p. executed_allowed (world_of (g.H.Functions.host host) ctx) r b blocks is p
