-- Items and results that need no allocation, as values.
use Rattle.expr_value.specs.declared.value.Value as value
use Rattle.expr_value.specs.declared.value.Value.{Value}
use Rattle.expr_predicates.specs.declared.run.Plain.{Plain}
use Rattle.expr_predicates.specs.declared.run.Plain.TheVariants as plain

abbrev pub plain_value : Plain → Value
plain_value (plain.Integer n) = value.Integer n
plain_value (plain.Bool b) = value.Bool b
plain_value (plain.Lent r) = r.now

abbrev pub IsIntegerItem : Plain → Type 0
IsIntegerItem (plain.Integer n) = Unit {0}
IsIntegerItem p = ⊥
