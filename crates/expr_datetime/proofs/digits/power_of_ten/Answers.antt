use Rattle.std.proofs.Common.{arith}
use Rattle.expr_datetime.proofs.Powers.{positive}
use Rattle.expr_datetime.proofs.digits.power_of_ten.Goals as goal

pub returns-clause-positive : goal.returns-clause-positive
returns-clause-positive c = omega (arith, positive c.args.places, c.pow.ensures)
