use Rattle.expr_meaning.proofs.laws.stale_slots_are_refused.Goals as goal
use Rattle.expr_meaning.proofs.Wrong.{no_program_has}

pub returns : goal.returns
returns c = no_program_has
