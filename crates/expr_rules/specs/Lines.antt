-- What is written of a rule, as lines of text.
use Rattle.std.specs.Prelude.{ℕ, List, [], ◌∷◌, ◌++◌, codes, if◌then◌else◌, Option, None, Some, String, string_bytes}
use Rattle.std.specs.List.{flat_map}
use Rattle.std.specs.Fmt.{decimal}
use Rattle.std.specs.declared.alloc.Global.{Global}
use Rattle.expr_rules.specs.declared.checked.SoundRule.{SoundRule}
use Rattle.expr_rules.specs.declared.needs.Needs.{Needs}
use Rattle.expr_rules.specs.declared.verdict.Fault.{Fault}
use Rattle.expr_rules.specs.declared.verdict.Fault.TheVariants.{Syntax, Literal, TooHigh, TooHeavy, Memory}

abbrev pub fault_kind : Fault → List ℕ
fault_kind (Syntax spot) = codes "syntax"
fault_kind Literal = codes "literal"
fault_kind TooHigh = codes "limit"
fault_kind TooHeavy = codes "limit"
fault_kind Memory = codes "memory"

abbrev pub fault_message : Fault → List ℕ
fault_message (Syntax spot) = if spot.is_end then codes "the expression isn't complete" else codes "no expression goes on like this"
fault_message Literal = codes "an integer is greater than 9223372036854775807"
fault_message TooHigh = codes "the expression nests too deeply"
fault_message TooHeavy = codes "the patterns are too large"
fault_message Memory = codes "out of memory"

-- words, each behind a blank
abbrev pub words_text : List (String Global) → List ℕ
words_text words = flat_map (λ word. 32 ∷ string_bytes word) words

-- a line with words: FILE:LINE: WHAT: WORD WORD ..
abbrev pub words_line : (file : List ℕ) → (line : ℕ) → (what : List ℕ) → List (String Global) → List ℕ
words_line file line what words = file ++ (codes ":" ++ (decimal line ++ (codes ": " ++ (what ++ (codes ":" ++ (words_text words ++ 10 ∷ []))))))

abbrev pub needs_lines : (file : List ℕ) → (line : ℕ) → Needs → List ℕ
needs_lines file line needs = words_line file line (codes "names") needs.names.items ++ words_line file line (codes "functions") needs.functions.items

-- the text of a rule, and what it asks for, as far as they are there
abbrev pub text_lines : Option (String Global) → List ℕ
text_lines None = []
text_lines (Some text) = string_bytes text ++ 10 ∷ []

abbrev pub asked_lines : (file : List ℕ) → (line : ℕ) → Option Needs → List ℕ
asked_lines file line None = []
asked_lines file line (Some needs) = needs_lines file line needs

abbrev pub sound_lines : (file : List ℕ) → (line : ℕ) → SoundRule → List ℕ
sound_lines file line sound = text_lines sound.text ++ asked_lines file line sound.needs

-- where a fault is: its line and its column, or else the line of the rule
abbrev pub place_text : (line : ℕ) → Fault → List ℕ
place_text line (Syntax spot) = decimal spot.line ++ (codes ":" ++ decimal spot.column)
place_text line fault = decimal line

-- the line with a caret, if the fault is at one place
abbrev pub shown_lines : Fault → List ℕ
shown_lines (Syntax spot) = string_bytes spot.shown ++ 10 ∷ []
shown_lines fault = []

-- a fault: FILE:LINE:COLUMN: KIND: MESSAGE, and below it the line with a caret
abbrev pub fault_lines : (file : List ℕ) → (line : ℕ) → Fault → List ℕ
fault_lines file line fault = file ++ (codes ":" ++ (place_text line fault ++ (codes ": " ++ (fault_kind fault ++ (codes ": " ++ (fault_message fault ++ 10 ∷ shown_lines fault))))))
