-- The items that remain, owned or borrowed.
use Rattle.std.specs.Prelude.{Bool, true, false, List, reverse}
use Rattle.expr_value.specs.declared.value.Value.{Value}
use Rattle.expr_predicates.specs.declared.remaining.Remaining.{Remaining}
use Rattle.expr_predicates.specs.declared.remaining.Remaining.TheVariants.{Owned, Front, Back}

-- in the order of the calls
abbrev pub items_remaining : Remaining → List Value
items_remaining (Owned items) = reverse items.items
items_remaining (Front items) = items.now
items_remaining (Back items) = reverse items.now

abbrev pub are_lent : Remaining → Bool
are_lent (Owned items) = false
are_lent (Front items) = true
are_lent (Back items) = true
