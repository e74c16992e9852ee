use Rattle.expr_stack.proofs.TwoIntegers.{said_one}
use Rattle.expr_stack.proofs.stack.Stack.say_with.Goals as goal

pub returns : goal.returns
returns g c = λ kept x rest e.
    said_one kept c.args.operator c.args.right.now c.in-Some.left.now c.in-Some-operator_truth.truth c.args.self.now c.put_truth.new.self x rest e (c.in-Some.ensures kept) c.in-Some-operator_truth.ensures (c.put_truth.ensures x rest e)
