use Rattle.expr_stack.proofs.TwoIntegers.{said_two}
use Rattle.expr_stack.proofs.stack.Stack.say_of_two.Goals as goal

pub returns : goal.returns
returns g c = λ kept x y rest e.
    let p = c.in-Some.ensures kept x y rest e in
    said_two kept c.args.operator _ _ c.in-Some-operator_truth.truth c.put_truth_over_two.new.self x y rest p.0 p.1 c.in-Some-operator_truth.ensures (c.put_truth_over_two.ensures x y rest e)
