use Rattle.expr_rules.proofs.Splitting.{no_predicate_put}
use Rattle.expr_rules.proofs.tasks.put_predicate.Goals as goal

pub returns-in-None : goal.returns-in-None
returns-in-None c = no_predicate_put _ c.args.predicate.now c.in-None.is
