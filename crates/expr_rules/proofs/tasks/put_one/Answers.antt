use Rattle.std.proofs.Common.{refl}
use Rattle.expr_rules.proofs.Tasking.{one_put}
use Rattle.expr_rules.proofs.tasks.put_one.Goals as goal

pub returns : goal.returns
returns c = one_put _ _ _ _ c.in_ok-push.ensures.items (λ a after scope. refl) _ refl
