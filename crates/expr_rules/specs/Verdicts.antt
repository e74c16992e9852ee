-- Whether a rule compiles, and where it is wrong.
use Rattle.std.specs.Prelude.{◌≡◌, ◌↔◌, ℕ, ◌+◌, ◌-◌, ◌^◌, min, IsTrue, List, length, Option, None, Some, Result, Ok, Err}
use Rattle.std.specs.Str.{IsCharBoundary}
use Rattle.expr_error.specs.declared.error.Error.{Error}
use Rattle.expr_error.specs.declared.error.Error.TheVariants.{PestError}
use Rattle.expr_limits.specs.declared.limit.Limit.{Limit}
use Rattle.expr_limits.specs.declared.limit.Limit.TheVariants.{Nesting, Patterns}
use Rattle.expr_limits.specs.declared.limits.Limits.{Limits}
use Rattle.expr_limits.specs.declared.outcome.Outcome.{Outcome}
use Rattle.expr_limits.specs.declared.outcome.Outcome.TheVariants.{Answered, Stopped}
use Rattle.expr_syntax.specs.CompiledLimited.{IsCompiledLimited}
use Rattle.expr_syntax.specs.LineColumns.{IsLineColumn}
use Rattle.expr_syntax.specs.Texts.{FaultPlace, HasLargeLiteral, HasNoTree, IsCompiled, IsPlaced}
use Rattle.expr_syntax.specs.declared.line_column.LineColumn.{LineColumn}
use Rattle.expr_tree.specs.declared.node.Program.{Program}
use Rattle.expr_rules.specs.declared.verdict.Fault.{Fault}
use Rattle.expr_rules.specs.declared.verdict.Fault.TheVariants.{Syntax, Literal, TooHigh, TooHeavy, Memory}
use Rattle.expr_rules.specs.declared.verdict.Spot.{Spot}
use Rattle.expr_rules.specs.declared.verdict.Verdict.{Verdict}
use Rattle.expr_rules.specs.declared.verdict.Verdict.TheVariants.{Sound, Refused}

-- what compiling says of a text, within limits or without
abbrev pub IsCompiledIn : Option Limits → List ℕ → Result (Outcome Program) Error → Type 0
IsCompiledIn (Some limits) text made = IsCompiledLimited text limits made
IsCompiledIn None text (Ok (Answered program)) = IsCompiled text (Ok program)
IsCompiledIn None text (Ok (Stopped limit)) = ⊥
IsCompiledIn None text (Err error) = IsCompiled text (Err error)

-- the same, and a syntax error is at the first fault, between two characters
pub record CompilesWithin (limits : Option Limits) (text : List ℕ) (made : Result (Outcome Program) Error) : Type 0 where
  pub answer : IsCompiledIn limits text made
  pub place : IsPlaced text made
  pub boundary : (place : ℕ) → made ≡ Err (PestError place) → IsCharBoundary text place

-- The line and the column of an offset in a rule that begins on this line of the file, as `line_column_of` has them.
pub record IsSpotOf (text : List ℕ) (first place : ℕ) (spot : Spot) : Type 0 where
  pub at : LineColumn
  pub is_at : IsLineColumn text place at
  pub line : spot.line ≡ min (first + (at.line - 1)) (2 ^ 64 - 1)
  pub column : spot.column ≡ at.column
  pub shown : spot.shown ≡ at.shown
  pub ends : IsTrue spot.is_end ↔ (place ≡ length text)

-- the fault of a rule that passes a limit: only these two are for compiling
abbrev pub limit_fault : Limit → Fault
limit_fault Nesting = TooHigh
limit_fault limit = TooHeavy

-- an error at this offset of a rule, or out of memory
abbrev pub IsSyntaxFault : List ℕ → (first place : ℕ) → Fault → Type 0
IsSyntaxFault text first place (Syntax spot) = IsSpotOf text first place spot
IsSyntaxFault text first place Literal = ⊥
IsSyntaxFault text first place TooHigh = ⊥
IsSyntaxFault text first place TooHeavy = ⊥
IsSyntaxFault text first place Memory = Unit {0}

-- What a fault says of a rule that begins on this line of the file. A syntax error means that the rule has no tree, and
-- it is told at the first fault.
abbrev pub IsFaultOf : Option Limits → List ℕ → ℕ → Fault → Type 0
IsFaultOf limits text first (Syntax spot) = HasNoTree text × ((place : ℕ) × FaultPlace text place × IsSpotOf text first place spot)
IsFaultOf limits text first Literal = HasLargeLiteral text
IsFaultOf limits text first TooHigh = IsCompiledIn limits text (Ok (Stopped Nesting))
IsFaultOf limits text first TooHeavy = IsCompiledIn limits text (Ok (Stopped Patterns))
IsFaultOf limits text first Memory = Unit {0}

-- What is said of a rule: the program that it compiles to, or its fault.
abbrev pub IsVerdict : Option Limits → List ℕ → ℕ → Verdict → Type 0
IsVerdict limits text first (Sound program) = IsCompiledIn limits text (Ok (Answered program))
IsVerdict limits text first (Refused fault) = IsFaultOf limits text first fault
