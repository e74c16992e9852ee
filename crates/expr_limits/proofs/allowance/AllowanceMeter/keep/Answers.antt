use Rattle.expr_limits.proofs.Empty.{place_kept}
use Rattle.expr_limits.proofs.allowance.AllowanceMeter.keep.Goals as goal

pub returns-then-weighs_one : goal.returns-then-weighs_one
returns-then-weighs_one c =
    let none = c.weighs_one.ensures c.if-weighs_one.true in
    place_kept (λ l. l) c.take.result _ _ _ _ none.0 none.1 c.take.ensures
