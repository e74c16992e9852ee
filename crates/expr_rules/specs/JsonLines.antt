-- What is written of a rule, as JSON. Members stand in the order of their names.
use Rattle.std.specs.Prelude.{ℕ, Bool, true, false, List, map, codes, Option, None, Some, String, string_bytes}
use Rattle.std.specs.declared.alloc.Global.{Global}
use Rattle.serde_json.specs.Data.{Data, boolean, number, string, array, object, unsigned, Members, no_members, put}
use Rattle.serde_json.specs.View.{items_of}
use Rattle.expr_rules.specs.Lines.{fault_kind, fault_message}
use Rattle.expr_rules.specs.declared.checked.CheckedRule.{CheckedRule}
use Rattle.expr_rules.specs.declared.checked.CheckOutcome.{CheckOutcome}
use Rattle.expr_rules.specs.declared.checked.CheckOutcome.TheVariants.{Sound, Refused}
use Rattle.expr_rules.specs.declared.checked.SoundRule.{SoundRule}
use Rattle.expr_rules.specs.declared.needs.Needs.{Needs}
use Rattle.expr_rules.specs.declared.verdict.Fault.{Fault}
use Rattle.expr_rules.specs.declared.verdict.Fault.TheVariants.{Syntax}

-- the file, the line, and whether the rule compiles
abbrev pub with_base : (file : List ℕ) → (line : ℕ) → Bool → Members → Members
with_base file line is_sound ms = put (codes "compiles") (boolean is_sound) (put (codes "line") (number (unsigned line)) (put (codes "file") (string file) ms))

abbrev pub with_text : Option (String Global) → Members → Members
with_text None ms = ms
with_text (Some text) ms = put (codes "text") (string (string_bytes text)) ms

-- names, as an array of strings
abbrev pub names_data : List (String Global) → Data
names_data names = array (items_of (map (λ name. string (string_bytes name)) names))

abbrev pub with_needs : Option Needs → Members → Members
with_needs None ms = ms
with_needs (Some needs) ms = put (codes "functions") (names_data needs.functions.items) (put (codes "names") (names_data needs.names.items) ms)

-- what was found of a rule that compiles, as far as it is there
abbrev pub sound_data : (file : List ℕ) → (line : ℕ) → SoundRule → Data
sound_data file line sound = object (with_needs sound.needs (with_text sound.text (with_base file line true no_members)))

-- where a fault is: at a column, with the line and a caret below it, or else on the line of the rule
abbrev pub placed_members : (file : List ℕ) → (line : ℕ) → Fault → Members
placed_members file line (Syntax spot) = put (codes "shown") (string (string_bytes spot.shown)) (put (codes "column") (number (unsigned spot.column)) (with_base file spot.line false no_members))
placed_members file line fault = with_base file line false no_members

abbrev pub fault_data : (file : List ℕ) → (line : ℕ) → Fault → Data
fault_data file line fault = object (put (codes "message") (string (fault_message fault)) (put (codes "kind") (string (fault_kind fault)) (placed_members file line fault)))

abbrev pub outcome_data : (file : List ℕ) → (line : ℕ) → CheckOutcome → Data
outcome_data file line (Sound sound) = sound_data file line sound
outcome_data file line (Refused fault) = fault_data file line fault

abbrev pub rule_data : (file : List ℕ) → CheckedRule → Data
rule_data file rule = outcome_data file rule.line rule.outcome
