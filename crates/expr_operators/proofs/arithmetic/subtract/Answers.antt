use Rattle.std.proofs.Math.Path.{subst}
use Rattle.expr_value.specs.Answers.{ReturnsExactly}
use Rattle.expr_operators.proofs.Moving.{earlier-is}
use Rattle.expr_operators.proofs.arithmetic.subtract.Goals as goal

pub returns-in-DateTime-Duration-clause-answer : goal.returns-in-DateTime-Duration-clause-answer
returns-in-DateTime-Duration-clause-answer c =
    let arm = c.in-DateTime-Duration in
    subst (λ a. ReturnsExactly c.earlier.result a) (earlier-is c.args.left.now c.args.right.now c.get.result.now arm.moment arm.n arm.is-0 arm.is-1 c.get.ensures) c.earlier.ensures
