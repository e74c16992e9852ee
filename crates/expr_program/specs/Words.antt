-- The arguments of the program: its bindings, and its words for errors.
use Rattle.std.specs.Prelude.{ℕ, Bool, false, nat_lt, ◌==◌, ◌&&◌, List, [], ◌∷◌, length, codes}
use Rattle.std.specs.List.{list_all, position_or_len, before_first, after_first}
use Rattle.expr_error.specs.ErrorKind.{ErrorKind, syntax, literal, evaluation, pattern, memory}

abbrev pub is_equals_sign : ℕ → Bool
is_equals_sign b = b == 61

-- an argument NAME=CODE is cut at its first `=`
abbrev pub bound_name : List ℕ → List ℕ
bound_name word = before_first is_equals_sign word

abbrev pub code_of : List ℕ → List ℕ
code_of word = after_first is_equals_sign word

-- the position of the first `=`, or the length of the argument
abbrev pub equals_sign_at : List ℕ → ℕ
equals_sign_at word = position_or_len is_equals_sign word

-- it has an `=`, and a NAME that isn't empty
abbrev pub is_binding : List ℕ → Bool
is_binding word = nat_lt 0 (equals_sign_at word) && nat_lt (equals_sign_at word) (length word)

-- CODE [NAME=CODE]...
abbrev pub is_call : List (List ℕ) → Bool
is_call [] = false
is_call (code ∷ bindings) = list_all is_binding bindings

-- the word for a kind of error
abbrev pub word_for : ErrorKind → List ℕ
word_for syntax = codes "syntax"
word_for literal = codes "literal"
word_for evaluation = codes "evaluation"
word_for pattern = codes "pattern"
word_for memory = codes "memory"
