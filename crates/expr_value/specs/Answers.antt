-- What a step may return: a value or a kind of error, or the values of several parts.
use Rattle.std.specs.Prelude.{◌≡◌, ◌≢◌, Result, Ok, Err}
use Rattle.expr_error.specs.ErrorKind.{ErrorKind, error_kind, memory}
use Rattle.expr_error.specs.declared.error.Error.{Error}
use Rattle.expr_value.specs.declared.value.Value.{Value}

abbrev pub Answer : Type 0
Answer = Result Value ErrorKind

-- a step after another. If the first returned an error, that is the result.
abbrev pub ThenIfOk : {A B : Type 0} → Result A ErrorKind → (A → Result B ErrorKind → Type 0) → Result B ErrorKind → Type 0
ThenIfOk (Ok v) next answer = next v answer
ThenIfOk (Err e) next answer = answer ≡ Err e

-- one step, and if it returns a value then the next
abbrev pub Then : {A B : Type 0} → (Result A ErrorKind → Type 0) → (A → Result B ErrorKind → Type 0) → Result B ErrorKind → Type 0
Then {A} {B} first next answer = (x : Result A ErrorKind) × first x × ThenIfOk x next answer

-- A call returns one of these results, or it is out of memory.
abbrev pub Returns : {A : Type 0} → Result A Error → (Result A ErrorKind → Type 0) → Type 0
Returns (Ok v) allowed = allowed (Ok v)
Returns (Err e) allowed = error_kind e ≢ memory → allowed (Err (error_kind e))

-- A call returns this result, or it is out of memory.
abbrev pub ReturnsExactly : {A : Type 0} → Result A Error → Result A ErrorKind → Type 0
ReturnsExactly result answer = Returns result (λ a. answer ≡ a)
