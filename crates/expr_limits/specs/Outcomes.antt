-- How a call within limits ends.
use Rattle.std.specs.Prelude.{◌≢◌, Result, Ok, Err}
use Rattle.expr_limits.specs.Counting.{Ending, gives, refuses, stops}
use Rattle.expr_limits.specs.Rooms.{Room}
use Rattle.expr_limits.specs.declared.outcome.Outcome.{Outcome}
use Rattle.expr_limits.specs.declared.outcome.Outcome.TheVariants.{Answered, Stopped}
use Rattle.expr_error.specs.ErrorKind.{error_kind, memory}
use Rattle.expr_error.specs.declared.error.Error.{Error}
use Rattle.expr_value.specs.declared.value.Value.{Value}

-- it returns what a counted run returns, stops where one stops, fails as one fails, or is out of memory
abbrev pub ReturnsOutcome : Result (Outcome Value) Error → (Ending Room → Type 0) → Type 0
ReturnsOutcome (Ok (Answered v)) allowed = (left : Room) × allowed (gives v left)
ReturnsOutcome (Ok (Stopped limit)) allowed = allowed (stops limit)
ReturnsOutcome (Err e) allowed = error_kind e ≢ memory → allowed (refuses (error_kind e))

-- this holds of a result
abbrev pub OnAnswer : {A : Type 0} → Outcome A → (A → Type 0) → Type 0
OnAnswer (Answered v) said = said v
OnAnswer (Stopped limit) said = Unit {0}
