-- The errors of a source, whatever context it is evaluated in.
use Rattle.std.specs.Prelude.{ℕ, List, Err}
use Rattle.expr_syntax.specs.Texts.{HasLargeLiteral, HasNoTree}
use Rattle.expr_error.specs.ErrorKind.{syntax, literal}
use Rattle.expr_value.specs.Answers.{Answer}

-- the source has no tree, or a literal in it is too large
abbrev pub IsRefused : List ℕ → Answer → Type 0
IsRefused text (Err syntax) = HasNoTree text
IsRefused text (Err literal) = HasLargeLiteral text
IsRefused text answer = ⊥
