use Rattle.std.proofs.lemmas.Result.{on_ok_weaker}
use Rattle.expr_rules.proofs.Tasking.{then_put}
use Rattle.expr_rules.proofs.tasks.put_bounds.Goals as goal

pub returns : goal.returns
returns c = on_ok_weaker c.put_bound-2.result (λ h. then_put c.in_ok-put_bound.ensures h) c.put_bound-2.ensures
