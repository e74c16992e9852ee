-- The kinds of errors. The message of an error and the offset of a syntax error are for people, and no clause is about
-- them.
use Rattle.std.specs.Prelude.{◌≡◌, ◌≢◌, IfErr, Result}
use Rattle.expr_error.specs.declared.error.Error.{Error}
use Rattle.expr_error.specs.declared.error.Error.TheVariants.{PestError, ParseError, ExprError, RegexError, MemoryError}

pub data ErrorKind : Type 0 where
  -- the source has no tree
  syntax : ErrorKind
  -- the source has a tree, and an integer literal is too large
  literal : ErrorKind
  -- evaluation fails
  evaluation : ErrorKind
  -- a regular expression does not build, for any reason but memory
  pattern : ErrorKind
  -- an allocation failed
  memory : ErrorKind

abbrev pub error_kind : Error → ErrorKind
error_kind (PestError place) = syntax
error_kind (ParseError message) = literal
error_kind (ExprError message) = evaluation
error_kind (RegexError error) = pattern
error_kind MemoryError = memory

-- A call fails only if it is out of memory.
abbrev pub OnlyMemory : {A : Type 0} → Result A Error → Type 0
OnlyMemory result = IfErr result (λ e. e ≡ MemoryError)

-- A call fails with a kind for which this holds, or because it is out of memory.
abbrev pub RefusesWith : {A : Type 0} → Result A Error → (ErrorKind → Type 0) → Type 0
RefusesWith result said = IfErr result (λ e. error_kind e ≢ memory → said (error_kind e))

-- A call never fails because a regular expression does not build.
abbrev pub RefusesNoPattern : {A : Type 0} → Result A Error → Type 0
RefusesNoPattern result = IfErr result (λ e. error_kind e ≢ pattern)

-- an error is of this kind, or it is out of memory
abbrev pub IsOfKind : Error → ErrorKind → Type 0
IsOfKind e kind = error_kind e ≢ memory → error_kind e ≡ kind
