use Rattle.std.proofs.lemmas.Result.{on_ok_weaker}
use Rattle.expr_rules.proofs.Tasking.{then_put}
use Rattle.expr_rules.proofs.tasks.put_call.Goals as goal

pub returns : goal.returns
returns c = on_ok_weaker c.put_items.result (λ h. then_put c.in_ok-put_predicate.ensures h) c.put_items.ensures
