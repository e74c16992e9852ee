-- The lines of a stream of bytes, and what part of a line is JSON.
use Rattle.std.specs.Prelude.{◌≡◌, ℕ, Bool, ◌||◌, ◌==◌, List, [], ◌∷◌, drop, take, bytes_eq, if◌then◌else◌, Option, None, Some}
use Rattle.std.specs.List.{list_all}

-- a byte is added to the first of some lines
abbrev pub onto_first : ℕ → List (List ℕ) → List (List ℕ)
onto_first b [] = (b ∷ []) ∷ []
onto_first b (line ∷ lines) = (b ∷ line) ∷ lines

-- A line ends before a line feed, which is not part of it. Bytes after the last line feed are a line too.
abbrev pub lines_of : List ℕ → List (List ℕ)
lines_of [] = []
lines_of (b ∷ bs) = if b == 10 then [] ∷ lines_of bs else onto_first b (lines_of bs)

-- known bytes start with this line, and lose it with its line feed
abbrev pub TakesLine : List ℕ → Option (List ℕ) → Option (List ℕ) → Type 0
TakesLine line None new = Unit {0}
TakesLine line (Some xs) None = ⊥
TakesLine line (Some xs) (Some ys) = lines_of xs ≡ line ∷ lines_of ys

-- the byte order mark
abbrev pub mark : List ℕ
mark = 239 ∷ 187 ∷ 191 ∷ []

-- a line without that mark at its start
abbrev pub line_text : List ℕ → List ℕ
line_text line = if bytes_eq (take 3 line) mark then drop 3 line else line

abbrev pub is_space : ℕ → Bool
is_space b = (b == 32) || ((b == 9) || (b == 13))

-- a line of only spaces, tabs and carriage returns
abbrev pub is_blank_line : List ℕ → Bool
is_blank_line line = list_all is_space (line_text line)
