use Rattle.std.proofs.Math.Path.{subst}
use Rattle.expr_value.specs.Answers.{ReturnsExactly}
use Rattle.expr_operators.proofs.Moving.{later-is, sooner-is}
use Rattle.expr_operators.proofs.arithmetic.add.Goals as goal

pub returns-in-DateTime-Duration-clause-answer : goal.returns-in-DateTime-Duration-clause-answer
returns-in-DateTime-Duration-clause-answer c =
    let arm = c.in-DateTime-Duration in
    subst (λ a. ReturnsExactly c.later-in-DateTime-Duration.result a) (later-is c.args.left.now c.args.right.now c.get-in-DateTime-Duration.result.now arm.moment arm.n arm.is-0 arm.is-1 c.get-in-DateTime-Duration.ensures) c.later-in-DateTime-Duration.ensures

pub returns-in-Duration-DateTime-clause-answer : goal.returns-in-Duration-DateTime-clause-answer
returns-in-Duration-DateTime-clause-answer c =
    let arm = c.in-Duration-DateTime in
    subst (λ a. ReturnsExactly c.later.result a) (sooner-is c.args.left.now c.args.right.now c.get.result.now arm.moment arm.n arm.is-0 arm.is-1 c.get.ensures) c.later.ensures
