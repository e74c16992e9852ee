-- When the left side of an operator is enough, and when the right side is evaluated.
use Rattle.std.specs.Prelude.{◌≡◌, true, false, Ok, Err}
use Rattle.expr_error.specs.ErrorKind.{evaluation}
use Rattle.expr_functions.specs.Strictness.{operator_strictness}
use Rattle.expr_functions.specs.declared.operator.Operator.{Operator}
use Rattle.expr_functions.specs.declared.strictness.Strictness.{Strictness}
use Rattle.expr_functions.specs.declared.strictness.Strictness.TheVariants.{Both, EndsAtFalse, EndsAtTrue, Pattern}
use Rattle.expr_value.specs.Answers.{Answer}
use Rattle.expr_value.specs.declared.value.Value as value
use Rattle.expr_value.specs.declared.value.Value.{Value, out-Value}
use Rattle.expr_value.specs.declared.value.Value.TheOpen.{Value-F}

-- the right side is evaluated if the left one has this value
abbrev pub GoesRightBy : Strictness → Value → Type 0
GoesRightBy Both v = Unit {0}
GoesRightBy EndsAtFalse v = v ≡ value.Bool true
GoesRightBy EndsAtTrue v = v ≡ value.Bool false
GoesRightBy Pattern v = Unit {0}

abbrev pub GoesRight : Operator → Value → Type 0
GoesRight op v = GoesRightBy (operator_strictness op) v

-- what `and` returns for this value on the left alone, and what `or` does
abbrev pub AndEndsLayer : Value-F Value → Answer → Type 0
AndEndsLayer (Value-F.Bool true) answer = ⊥
AndEndsLayer (Value-F.Bool false) answer = answer ≡ Ok (value.Bool false)
AndEndsLayer v answer = answer ≡ Err evaluation

abbrev pub OrEndsLayer : Value-F Value → Answer → Type 0
OrEndsLayer (Value-F.Bool true) answer = answer ≡ Ok (value.Bool true)
OrEndsLayer (Value-F.Bool false) answer = ⊥
OrEndsLayer v answer = answer ≡ Err evaluation

abbrev pub EndsWithBy : Strictness → Value → Answer → Type 0
EndsWithBy Both v answer = ⊥
EndsWithBy EndsAtFalse v answer = AndEndsLayer (out-Value v) answer
EndsWithBy EndsAtTrue v answer = OrEndsLayer (out-Value v) answer
EndsWithBy Pattern v answer = ⊥

-- this value on the left is enough for the operator to return this
abbrev pub EndsWithLeft : Operator → Value → Answer → Type 0
EndsWithLeft op v answer = EndsWithBy (operator_strictness op) v answer
