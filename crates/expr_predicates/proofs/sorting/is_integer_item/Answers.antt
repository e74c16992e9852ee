use Rattle.expr_predicates.proofs.Own.{integer_found}
use Rattle.expr_predicates.proofs.sorting.is_integer_item.Goals as goal

pub returns : goal.returns
returns c = integer_found c.args.item.now c.is_some.result c.as_integer.result c.is_some.ensures c.as_integer.ensures
