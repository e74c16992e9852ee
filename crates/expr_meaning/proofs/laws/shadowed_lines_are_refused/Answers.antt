use Rattle.expr_meaning.proofs.laws.shadowed_lines_are_refused.Goals as goal
use Rattle.expr_meaning.proofs.Shadow.{shadowing_safe, shadowing_wrong}
use Rattle.expr_meaning.specs.World.{world_of}

pub returns : goal.returns
returns g c = λ host ctx. (shadowing_safe, shadowing_wrong (world_of (g.H.Functions.host host) ctx))
