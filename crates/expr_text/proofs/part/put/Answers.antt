use Rattle.expr_text.proofs.Pending.{one_put}
use Rattle.expr_text.proofs.part.put.Goals as goal

pub returns : goal.returns
returns c = one_put _ _ _ c.in_ok-push.ensures.items
