use Rattle.std.proofs.lemmas.Result.{on_ok_weaker}
use Rattle.expr_rules.proofs.Tasking.{then_put}
use Rattle.expr_rules.proofs.tasks.put_choice.Goals as goal

pub returns : goal.returns
returns c = on_ok_weaker c.put_one.result (λ h. then_put (then_put c.in_ok-put_program.ensures c.in_ok-put_program-2.ensures) h) c.put_one.ensures
