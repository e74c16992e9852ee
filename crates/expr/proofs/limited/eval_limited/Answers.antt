use Rattle.std.proofs.Common.{inr}
use Rattle.expr_eval.proofs.Faults.{nothing_refuses}
use Rattle.expr.proofs.limited.eval_limited.Goals as goal

pub returns-clause-own : goal.returns-clause-own
returns-clause-own g c = inr nothing_refuses
