use Rattle.expr_meaning.proofs.laws.programs_have_codes.Goals as goal
use Rattle.expr_meaning.proofs.Lowering.{lowered_is}

pub returns : goal.returns
returns c = lowered_is
