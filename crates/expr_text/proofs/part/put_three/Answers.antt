use Rattle.expr_text.proofs.Pending.{then_put}
use Rattle.expr_text.proofs.part.put_three.Goals as goal

pub returns : goal.returns
returns c =
    then_put (then_put c.in_ok-put.ensures c.in_ok-put-2.ensures) c.in_ok-put-3.ensures
