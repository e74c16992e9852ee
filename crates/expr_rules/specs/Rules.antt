-- The rules of a text: a text as a whole, or its lines that are neither blank nor comments.
use Rattle.std.specs.Prelude.{ℕ, ◌+◌, ◌==◌, ◌&&◌, Bool, not, List, [], ◌∷◌, ◌++◌, length, take, drop, bytes_eq, codes, nat_eq, if◌then◌else◌}
use Rattle.std.specs.List.{starts_with}
use Rattle.std.specs.Str.{trim, trim_end}
use Rattle.std.specs.Str.Lines.{lines}
use Rattle.expr_rules.specs.declared.rule_text.Layout.{Layout}
use Rattle.expr_rules.specs.declared.rule_text.Layout.TheVariants.{Lines, Whole}
use Rattle.expr_rules.specs.declared.rule_text.RuleText.{RuleText}

-- a line is a rule if it isn't blank and doesn't begin with a comment
abbrev pub is_rule_line : List ℕ → Bool
is_rule_line line = not (length (trim line) == 0) && not (bytes_eq (take 2 (trim line)) (codes "//"))

-- the rule on a line with this number, if there is one: the line without white space at its end
abbrev pub rule_on : ℕ → List ℕ → List (ℕ × List ℕ)
rule_on n line = if is_rule_line line then (n, trim_end line) ∷ [] else []

-- those on the lines from this number on
abbrev pub rules_from : ℕ → List (List ℕ) → List (ℕ × List ℕ)
rules_from n [] = []
rules_from n (line ∷ ls) = rule_on n line ++ rules_from (n + 1) ls

abbrev pub byte_order_mark : List ℕ
byte_order_mark = 239 ∷ 187 ∷ 191 ∷ []

-- a text without that mark at its start
abbrev pub body_of : List ℕ → List ℕ
body_of text = if starts_with nat_eq text byte_order_mark then drop 3 text else text

-- lines count from 1
abbrev pub rules_in : Layout → List ℕ → List (ℕ × List ℕ)
rules_in Lines text = rules_from 1 (lines (body_of text))
rules_in Whole text = (1, trim_end (body_of text)) ∷ []

-- a rule in memory
abbrev pub numbered_text : RuleText → ℕ × List ℕ
numbered_text rule = (rule.line, rule.text.now)
