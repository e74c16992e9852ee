-- What `parse` may return.
use Rattle.std.specs.Prelude.{◌≡◌, ℕ, ◌≤◌, List, length, Result, Ok, Err}
use Rattle.expr_tokens.specs.Grammar.{TreeProgram, LiteralsFit}
use Rattle.expr_parts.specs.Parts.{BlockWithHeight}
use Rattle.expr_parts.specs.Measures.{program_with_height}
use Rattle.expr_syntax.specs.Trees.{FaultPlace, HasLargeLiteral, HasNoTree, IsMeasureOf}
use Rattle.expr_syntax.specs.declared.parser.ParseError.{ParseError}
use Rattle.expr_syntax.specs.declared.parser.ParseError.TheVariants as error

-- what each result says about the source
abbrev pub IsParsed : List ℕ → Result BlockWithHeight ParseError → Type 0
IsParsed text (Ok m) = IsMeasureOf text m
IsParsed text (Err (error.Syntax place)) = HasNoTree text
IsParsed text (Err error.Literal) = HasLargeLiteral text
IsParsed text (Err error.Memory) = Unit {0}

-- the results for a source that has the tree t
abbrev pub IsParsedFor : TreeProgram → Result BlockWithHeight ParseError → Type 0
IsParsedFor t (Ok m) = (m ≡ program_with_height t) × LiteralsFit t
IsParsedFor t (Err (error.Syntax place)) = ⊥
IsParsedFor t (Err error.Literal) = ¬ LiteralsFit t
IsParsedFor t (Err error.Memory) = Unit {0}

-- a syntax error is at the first fault
abbrev pub IsParsedAt : List ℕ → Result BlockWithHeight ParseError → Type 0
IsParsedAt text (Ok m) = Unit {0}
IsParsedAt text (Err (error.Syntax place)) = (place ≤ length text) × FaultPlace text place
IsParsedAt text (Err error.Literal) = Unit {0}
IsParsedAt text (Err error.Memory) = Unit {0}
