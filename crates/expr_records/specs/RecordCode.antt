-- The code of an expression, within limits or without.
use Rattle.std.specs.Prelude.{◌≢◌, ℕ, List, Option, None, Some, Result, Ok, Err, String}
use Rattle.std.specs.declared.alloc.Global.{Global}
use Rattle.std.specs.declared.boxed.Box.{Box}
use Rattle.expr_code.specs.Codes.{IsCode}
use Rattle.expr_error.specs.ErrorKind.{error_kind, memory}
use Rattle.expr_error.specs.declared.error.Error.{Error}
use Rattle.expr_limits.specs.declared.limit.Limit.{Limit}
use Rattle.expr_limits.specs.declared.limit.Limit.TheVariants.{Nesting, Patterns}
use Rattle.expr_limits.specs.declared.limits.Limits.{Limits}
use Rattle.expr_limits.specs.declared.outcome.Outcome.{Outcome}
use Rattle.expr_limits.specs.declared.outcome.Outcome.TheVariants.{Answered, Stopped}
use Rattle.expr_lowering.specs.OwnedCodes.{owned_blocks}
use Rattle.expr_lowering.specs.declared.code.Code.{Code}
use Rattle.expr_pattern.specs.declared.pattern.Pattern.{Pattern}
use Rattle.expr_syntax.specs.Bounds.{IsHeavier, IsHigher, IsLight}
use Rattle.expr_syntax.specs.Refused.{IsRefused}
use Rattle.expr_syntax.specs.Texts.{IsProgramOf, IsProgramWithin}
use Rattle.expr_tree.specs.Term.{Block}
use Rattle.expr_value.specs.declared.value.Value.{Value}

-- code that owns its parts
abbrev pub RecordCode : Type 0
RecordCode = Code (Box Value Global) (Box (String Global) Global) (Box Pattern Global)

-- The program is one of the expression. Its tree and its literal patterns are within the limits, if there are any.
abbrev pub IsProgramIn : Option Limits → List ℕ → Block → Type 0
IsProgramIn (Some limits) text b = IsProgramWithin text limits.nesting b × IsLight text limits.patterns
IsProgramIn None text b = IsProgramOf text b

-- the code is one of such a program
abbrev pub IsCodeOf : Option Limits → List ℕ → RecordCode → Type 0
IsCodeOf limits text code = (b : Block) × IsProgramIn limits text b × IsCode b (owned_blocks code)

-- the expression itself passes this limit
abbrev pub IsBeyondLimit : Option Limits → List ℕ → Limit → Type 0
IsBeyondLimit (Some limits) text Nesting = IsHigher text limits.nesting
IsBeyondLimit (Some limits) text Patterns = IsHeavier text limits.patterns
IsBeyondLimit (Some limits) text limit = ⊥
IsBeyondLimit None text limit = ⊥

-- This is made of the expression, or it passes a limit, or it has an error of its own, or memory is lacking.
abbrev pub IsMadeOf : {A : Type 0} → Option Limits → List ℕ → (A → Type 0) → Result (Outcome A) Error → Type 0
IsMadeOf limits text made (Ok (Answered a)) = made a
IsMadeOf limits text made (Ok (Stopped limit)) = IsBeyondLimit limits text limit
IsMadeOf limits text made (Err e) = error_kind e ≢ memory → IsRefused text (Err (error_kind e))
