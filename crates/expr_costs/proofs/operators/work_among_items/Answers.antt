use Rattle.std.proofs.Common.{ap}
use Rattle.expr_costs.specs.Operators.{operator_room, operator_work}
use Rattle.expr_costs.proofs.Among.{among}
use Rattle.expr_costs.proofs.operators.work_among_items.Goals as goal

pub returns-in-In-clause-costs : goal.returns-in-In-clause-costs
returns-in-In-clause-costs c =
    let x = c.args.left.now in
    let v = c.args.right.now in
    among c.args.operator x v c.in-Array.field-0 c.byte_units_of-loads.result c.length_of-count.result (ap (λ o. operator_work o x v) c.in-In.is) (ap (λ o. operator_room o x v) c.in-In.is)
    (c.is_text_or_integer-is_plain.ensures c.if-not-is_plain.false) c.in-Array.is c.byte_units_of-loads.ensures.byte_units c.if-loads-gt0.false c.length_of-count.ensures

pub returns-in-NotIn-clause-costs : goal.returns-in-NotIn-clause-costs
returns-in-NotIn-clause-costs c =
    let x = c.args.left.now in
    let v = c.args.right.now in
    among c.args.operator x v c.in-Array.field-0 c.byte_units_of-loads.result c.length_of-count.result (ap (λ o. operator_work o x v) c.in-NotIn.is) (ap (λ o. operator_room o x v) c.in-NotIn.is)
    (c.is_text_or_integer-is_plain.ensures c.if-not-is_plain.false) c.in-Array.is c.byte_units_of-loads.ensures.byte_units c.if-loads-gt0.false c.length_of-count.ensures
