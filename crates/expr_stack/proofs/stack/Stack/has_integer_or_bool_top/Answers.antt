use Rattle.std.proofs.Common.{refl}
use Rattle.expr_value.specs.declared.value.Value as value
use Rattle.expr_stack.proofs.Helds.{free_integer, free_truth, made_integer, made_truth}
use Rattle.expr_stack.proofs.stack.Stack.has_integer_or_bool_top.Goals as goal

pub returns-in-Integer-clause-value : goal.returns-in-Integer-clause-value
returns-in-Integer-clause-value g c = λ yes kept. rw (← c.self.view_is, c.in-Integer.is) (free_integer c.in-Integer.field-0)

pub returns-in-Integer-clause-owner : goal.returns-in-Integer-clause-owner
returns-in-Integer-clause-owner g c = λ yes. rw (← c.self.view_is, c.in-Integer.is) (value.Integer c.in-Integer.field-0, refl, made_integer c.in-Integer.field-0)

pub returns-in-Bool-clause-value : goal.returns-in-Bool-clause-value
returns-in-Bool-clause-value g c = λ yes kept. rw (← c.self.view_is, c.in-Bool.is) (free_truth c.in-Bool.field-0)

pub returns-in-Bool-clause-owner : goal.returns-in-Bool-clause-owner
returns-in-Bool-clause-owner g c = λ yes. rw (← c.self.view_is, c.in-Bool.is) (value.Bool c.in-Bool.field-0, refl, made_truth c.in-Bool.field-0)
