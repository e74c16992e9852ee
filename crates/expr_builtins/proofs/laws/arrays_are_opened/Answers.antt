use Rattle.expr_builtins.proofs.Opening.{flat_items-Array, flat_items-other}
use Rattle.expr_builtins.proofs.laws.arrays_are_opened.Goals as goal

pub returns-clause-array : goal.returns-clause-array
returns-clause-array c = flat_items-Array

pub returns-clause-other : goal.returns-clause-other
returns-clause-other c = flat_items-other
