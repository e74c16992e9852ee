use Rattle.expr_parts.proofs.Erase.{erases}
use Rattle.expr_parts.proofs.laws.erasure.Goals as goal

pub returns : goal.returns
returns c = erases
