-- Line and column of an offset, and the line with a caret under it.
use Rattle.std.specs.Prelude.{◌≡◌, ℕ, ◌+◌, ◌==◌, Option, Some, None, List, [], ◌∷◌, ◌++◌, length, take, drop, string_bytes}
use Rattle.std.specs.List.{before_first, count_by, repeat}
use Rattle.std.specs.Str.{IsCharBoundary, chars}
use Rattle.std.specs.Str.Pattern.{RFindsChar}
use Rattle.expr_syntax.specs.declared.line_column.LineColumn.{LineColumn}

-- what follows the match, or everything if there is none
abbrev pub text_behind : List ℕ → Option (ℕ × ℕ) → List ℕ
text_behind text None = text
text_behind text (Some (i, j)) = drop j text

-- what follows the last line feed of a source, or everything if there is none
abbrev pub IsLastLine : List ℕ → List ℕ → Type 0
IsLastLine text line = (r : Option (ℕ × ℕ)) × RFindsChar 10 text r × (line ≡ text_behind text r)

-- what comes before the first line feed of a source, or everything if there is none
abbrev pub first_line : List ℕ → List ℕ
first_line text = before_first (λ b. b == 10) text

-- lines and columns count from 1, lines by line feeds and columns by characters. The caret is under the character at
-- the offset, if each character takes one cell.
pub record IsLineColumn (text : List ℕ) (place : ℕ) (spot : LineColumn) : Type 0 where
  pub is_place : IsCharBoundary text place
  pub left : List ℕ
  pub is_left : IsLastLine (take place text) left
  pub line : spot.line ≡ count_by (λ b. b == 10) (take place text) + 1
  pub column : spot.column ≡ length (chars left) + 1
  pub shown : string_bytes spot.shown
      ≡ left ++ first_line (drop place text) ++ 10 ∷ [] ++ repeat (length (chars left)) (32 ∷ []) ++ 94 ∷ []
