use Rattle.expr_meaning.proofs.laws.codes_are_safe.Goals as goal
use Rattle.expr_code.proofs.Shaped.{safe_code}

pub returns : goal.returns
returns c = safe_code
