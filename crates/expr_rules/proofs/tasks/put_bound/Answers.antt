use Rattle.expr_rules.proofs.Splitting.{no_bound_put}
use Rattle.expr_rules.proofs.tasks.put_bound.Goals as goal

pub returns-in-None : goal.returns-in-None
returns-in-None c = no_bound_put _ c.args.bound.now c.in-None.is
