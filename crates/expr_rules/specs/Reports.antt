-- What is told of the rules of a text.
use Rattle.std.specs.Prelude.{◌≡◌, ℕ, ◌+◌, ◌-◌, ◌^◌, ◌==◌, min, nat_lt, Bool, true, false, List, [], ◌∷◌, ◌++◌, if◌then◌else◌, string_bytes}
use Rattle.std.specs.List.{flat_map}
use Rattle.serde_json.specs.Written.{compact_text}
use Rattle.expr_rules.specs.Checked.{AreChecked}
use Rattle.expr_rules.specs.JsonLines.{rule_data}
use Rattle.expr_rules.specs.Lines.{fault_lines, sound_lines}
use Rattle.expr_rules.specs.Rules.{rules_in}
use Rattle.expr_rules.specs.declared.checked.CheckedRule.{CheckedRule}
use Rattle.expr_rules.specs.declared.checked.CheckOutcome.{CheckOutcome}
use Rattle.expr_rules.specs.declared.checked.CheckOutcome.TheVariants.{Sound, Refused}
use Rattle.expr_rules.specs.declared.checking.CheckReport.{CheckReport}
use Rattle.expr_rules.specs.declared.checking.Manner.{Manner}
use Rattle.expr_rules.specs.declared.checking.Totals.{Totals}

-- what is written of a rule: its JSON, or else lines of text, which stand among the errors if it doesn't compile
abbrev pub plain_out : (file : List ℕ) → (line : ℕ) → CheckOutcome → List ℕ
plain_out file line (Sound sound) = sound_lines file line sound
plain_out file line (Refused fault) = []

abbrev pub plain_err : (file : List ℕ) → (line : ℕ) → CheckOutcome → List ℕ
plain_err file line (Sound sound) = []
plain_err file line (Refused fault) = fault_lines file line fault

abbrev pub out_text : (is_json : Bool) → (file : List ℕ) → CheckedRule → List ℕ
out_text true file rule = compact_text (rule_data file rule) ++ 10 ∷ []
out_text false file rule = plain_out file rule.line rule.outcome

abbrev pub err_text : (is_json : Bool) → (file : List ℕ) → CheckedRule → List ℕ
err_text true file rule = []
err_text false file rule = plain_err file rule.line rule.outcome

-- counts stop at the greatest number of 64 bits
abbrev pub one_more_of : ℕ → ℕ
one_more_of n = min (n + 1) (2 ^ 64 - 1)

abbrev pub no_rules : Totals
no_rules = record { sound = 0; refused = 0 }

abbrev pub with_outcome : Totals → CheckOutcome → Totals
with_outcome totals (Sound sound) = record { sound = one_more_of totals.sound; refused = totals.refused }
with_outcome totals (Refused fault) = record { sound = totals.sound; refused = one_more_of totals.refused }

abbrev pub with_rules : Totals → List CheckedRule → Totals
with_rules totals [] = totals
with_rules totals (rule ∷ rules) = with_rules (with_outcome totals rule.outcome) rules

-- all that is told of these rules, in order
pub record ReportsOn (rules : List CheckedRule) (is_json : Bool) (file : List ℕ) (before : Totals) (report : CheckReport) : Type 0 where
  pub out : string_bytes report.out ≡ flat_map (out_text is_json file) rules
  pub err : string_bytes report.err ≡ flat_map (err_text is_json file) rules
  pub totals : report.totals ≡ with_rules before rules

-- Each rule of the text is checked, and what is told is what was found of each, in order.
abbrev pub IsReport : Manner → (file text : List ℕ) → Totals → CheckReport → Type 0
IsReport manner file text before report =
    (checked : List CheckedRule) × AreChecked manner.limits manner.wishes (rules_in manner.layout text) checked × ReportsOn checked manner.is_json file before report

-- the status of a program: 4 if something can't be read or written, 3 if a rule doesn't compile, 1 if there is none, else 0
abbrev pub program_status : Totals → (has_failed : Bool) → ℕ
program_status totals true = 4
program_status totals false = if nat_lt 0 totals.refused then 3 else (if totals.sound == 0 then 1 else 0)
