-- What `compile_limited` may return.
use Rattle.std.specs.Prelude.{ℕ, List, Result, Ok, Err}
use Rattle.expr_limits.specs.declared.limit.Limit.TheVariants.{Nesting, Patterns}
use Rattle.expr_limits.specs.declared.limits.Limits.{Limits}
use Rattle.expr_limits.specs.declared.outcome.Outcome.{Outcome}
use Rattle.expr_limits.specs.declared.outcome.Outcome.TheVariants.{Answered, Stopped}
use Rattle.expr_syntax.specs.Bounds.{IsHeavier, IsHigher, IsLight}
use Rattle.expr_syntax.specs.Texts.{HasLargeLiteral, HasNoTree, IsProgramWithin}
use Rattle.expr_tree.specs.TermOf.{program_term}
use Rattle.expr_tree.specs.declared.node.Program.{Program}
use Rattle.expr_error.specs.declared.error.Error.{Error}
use Rattle.expr_error.specs.declared.error.Error.TheVariants.{PestError, ParseError, ExprError, RegexError, MemoryError}

-- what each result of `compile_limited` says about the source
abbrev pub IsCompiledLimited : List ℕ → Limits → Result (Outcome Program) Error → Type 0
IsCompiledLimited text limits (Ok (Answered p)) = IsProgramWithin text limits.nesting (program_term p) × IsLight text limits.patterns
IsCompiledLimited text limits (Ok (Stopped Nesting)) = IsHigher text limits.nesting
IsCompiledLimited text limits (Ok (Stopped Patterns)) = IsHeavier text limits.patterns
IsCompiledLimited text limits (Ok (Stopped limit)) = ⊥
IsCompiledLimited text limits (Err (PestError place)) = HasNoTree text
IsCompiledLimited text limits (Err (ParseError message)) = HasLargeLiteral text
IsCompiledLimited text limits (Err (ExprError message)) = ⊥
IsCompiledLimited text limits (Err (RegexError error)) = ⊥
IsCompiledLimited text limits (Err MemoryError) = Unit {0}
