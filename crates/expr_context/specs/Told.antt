-- The arguments of a predicate.
use Rattle.std.specs.Prelude.{Option}
use Rattle.expr_value.specs.declared.value.Value.{Value}

-- the item, and if they are bound its index and the accumulated value
pub record PredicateArgsView : Type 0 where
  pub item : Value
  pub index : Option Value
  pub acc : Option Value
