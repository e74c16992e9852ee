-- What compiling says of a rule.
use Rattle.std.proofs.Common.{ℕ, List, Option, None, Some, Ok, Err}
use Rattle.expr_error.specs.declared.error.Error.TheVariants.{PestError, ParseError}
use Rattle.expr_limits.specs.declared.limit.Limit.{Limit}
use Rattle.expr_limits.specs.declared.limit.Limit.TheVariants.{Nesting, Patterns, Steps, Depth, Size}
use Rattle.expr_limits.specs.declared.limits.Limits.{Limits}
use Rattle.expr_limits.specs.declared.outcome.Outcome.TheVariants.{Stopped}
use Rattle.expr_syntax.specs.Texts.{FaultPlace, HasLargeLiteral, HasNoTree}
use Rattle.expr_rules.specs.Verdicts.{IsCompiledIn, IsFaultOf, IsSyntaxFault, limit_fault}
use Rattle.expr_rules.specs.declared.verdict.Fault.{Fault}
use Rattle.expr_rules.specs.declared.verdict.Fault.TheVariants.{Syntax, Literal, TooHigh, TooHeavy, Memory}

pub passes_limit : (limits : Option Limits) (text : List ℕ) (first : ℕ) (limit : Limit) → IsCompiledIn limits text (Ok (Stopped limit)) → IsFaultOf limits text first (limit_fault limit)
passes_limit None text first limit h = absurd h
passes_limit (Some limits) text first Nesting h = h
passes_limit (Some limits) text first Patterns h = h
passes_limit (Some limits) text first Steps h = absurd h
passes_limit (Some limits) text first Depth h = absurd h
passes_limit (Some limits) text first Size h = absurd h

no_tree : (limits : Option Limits) (text : List ℕ) (place : ℕ) → IsCompiledIn limits text (Err (PestError place)) → HasNoTree text
no_tree None text place h = h
no_tree (Some limits) text place h = h

pub wrong_at : (limits : Option Limits) (text : List ℕ) (first place : ℕ) (fault : Fault) → IsCompiledIn limits text (Err (PestError place)) → FaultPlace text place → IsSyntaxFault text first place fault → IsFaultOf limits text first fault
wrong_at limits text first place (Syntax spot) h at is = (no_tree limits text place h, (place, at, is))
wrong_at limits text first place Literal h at is = absurd is
wrong_at limits text first place TooHigh h at is = absurd is
wrong_at limits text first place TooHeavy h at is = absurd is
wrong_at limits text first place Memory h at is = tt

pub large_literal : (limits : Option Limits) (text : List ℕ) (message : _) → IsCompiledIn limits text (Err (ParseError message)) → HasLargeLiteral text
large_literal None text message h = h
large_literal (Some limits) text message h = h
