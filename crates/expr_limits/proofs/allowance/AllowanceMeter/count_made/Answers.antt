use Rattle.std.proofs.Common.{refl}
use Rattle.expr_limits.proofs.Empty.{nothing_held}
use Rattle.expr_limits.proofs.allowance.AllowanceMeter.count_made.Goals as goal

pub returns-then-weighs_one : goal.returns-then-weighs_one
returns-then-weighs_one c =
    let none = c.weighs_one.ensures c.if-weighs_one.true in
    (refl, nothing_held _ _ _ _ _ none.0 none.1)
