-- The result of a run within limits.
use Rattle.std.specs.Prelude.{◌≢◌, Result, Ok, Err}
use Rattle.expr_limits.specs.declared.outcome.Outcome.{Outcome}
use Rattle.expr_limits.specs.declared.outcome.Outcome.TheVariants.{Answered, Stopped}
use Rattle.expr_value.specs.Answers.{Answer}
use Rattle.expr_error.specs.ErrorKind.{error_kind, memory}
use Rattle.expr_error.specs.declared.error.Error.{Error}
use Rattle.expr_value.specs.declared.value.Value.{Value}

-- The value is one of these results, and so is the error, unless it is a lack of memory. Nothing is said of a
-- limit.
abbrev pub MayGive : Result (Outcome Value) Error → (Answer → Type 0) → Type 0
MayGive (Ok (Answered v)) allowed = allowed (Ok v)
MayGive (Ok (Stopped limit)) allowed = Unit {0}
MayGive (Err e) allowed = error_kind e ≢ memory → allowed (Err (error_kind e))
