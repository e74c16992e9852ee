-- What follows from what a call gives.
use Rattle.std.specs.Prelude.{Result, Ok, Err}
use Rattle.expr_value.specs.Answers.{Returns}
use Rattle.expr_error.specs.ErrorKind.{ErrorKind, error_kind}
use Rattle.expr_error.specs.declared.error.Error.{Error}

pub gives_more : {A : Type 0} (r : Result A Error) {P Q : Result A ErrorKind → Type 0} → ((a : Result A ErrorKind) → P a → Q a) → Returns r P → Returns r Q
gives_more (Ok v) f g = f (Ok v) g
gives_more (Err e) f g = λ other. f (Err (error_kind e)) (g other)
