-- What is written as JSON has no fractions.
use Rattle.std.proofs.Common.{◌≡◌, ℕ, Bool, true, false, ◌||◌, List, [], ◌∷◌, map, Option, None, Some, Global, String, string_bytes, codes, refl, ap, ◌∙◌}
use Rattle.std.specs.Cmp.Lexicographic.{slice_cmp}
use Rattle.std.specs.Ordering.{nat_cmp, match_ordering}
use Rattle.std.specs.declared.cmp.Ordering.{Ordering}
use Rattle.std.specs.declared.cmp.Ordering.TheVariants.{Less, Equal, Greater}
use Rattle.serde_json.specs.Data.{Data, string, number, unsigned, boolean, Members, no_members, member, put}
use Rattle.serde_json.specs.View.{items_of}
use Rattle.serde_json.specs.Written.{has_float, items_have_float, members_have_float}
use Rattle.expr_rules.specs.JsonLines.{names_data, outcome_data, placed_members, rule_data, with_base, with_needs, with_text}
use Rattle.expr_rules.specs.Lines.{fault_kind, fault_message}
use Rattle.expr_rules.specs.declared.checked.CheckedRule.{CheckedRule}
use Rattle.expr_rules.specs.declared.checked.CheckOutcome.{CheckOutcome}
use Rattle.expr_rules.specs.declared.checked.CheckOutcome.TheVariants.{Sound, Refused}
use Rattle.expr_rules.specs.declared.needs.Needs.{Needs}
use Rattle.expr_rules.specs.declared.verdict.Fault.{Fault}
use Rattle.expr_rules.specs.declared.verdict.Fault.TheVariants.{Syntax, Literal, TooHigh, TooHeavy, Memory}

neither : (a b : Bool) → a ≡ false → b ≡ false → (a || b) ≡ false
neither a b p q = ap (λ c. c || b) p ∙ q

not_first : (a b : Bool) → (a || b) ≡ false → a ≡ false
not_first true b h = h
not_first false b h = refl

not_second : (a b : Bool) → (a || b) ≡ false → b ≡ false
not_second true true h = h
not_second true false h = refl
not_second false b h = h

put_plain : (k : List ℕ) (d : Data) (ms : Members) → has_float d ≡ false → members_have_float ms ≡ false → members_have_float (put k d ms) ≡ false
put_plain k d no_members p q = neither (has_float d) false p refl
put_plain k d (member l e ms) p q = by (slice_cmp nat_cmp k l) (put_plain k d ms p (not_second (has_float e) (members_have_float ms) q))
  where
    by : (r : Ordering) → members_have_float (put k d ms) ≡ false → members_have_float (match_ordering r (member k d (member l e ms)) (member l d ms) (member l e (put k d ms))) ≡ false
    by Less more = neither (has_float d) (has_float e || members_have_float ms) p q
    by Equal more = neither (has_float d) (members_have_float ms) p (not_second (has_float e) (members_have_float ms) q)
    by Greater more = neither (has_float e) (members_have_float (put k d ms)) (not_first (has_float e) (members_have_float ms) q) more

base_plain : (file : List ℕ) (line : ℕ) (is_sound : Bool) → members_have_float (with_base file line is_sound no_members) ≡ false
base_plain file line is_sound =
    let one = put (codes "file") (string file) no_members in
    let two = put (codes "line") (number (unsigned line)) one in
    put_plain (codes "compiles") (boolean is_sound) two refl (put_plain (codes "line") (number (unsigned line)) one refl (put_plain (codes "file") (string file) no_members refl refl))

text_plain : (text : Option (String Global)) (ms : Members) → members_have_float ms ≡ false → members_have_float (with_text text ms) ≡ false
text_plain None ms h = h
text_plain (Some text) ms h = put_plain (codes "text") (string (string_bytes text)) ms refl h

names_plain : (names : List (String Global)) → items_have_float (items_of (map (λ name. string (string_bytes name)) names)) ≡ false
names_plain [] = refl
names_plain (name ∷ names) = names_plain names

needs_plain : (needs : Option Needs) (ms : Members) → members_have_float ms ≡ false → members_have_float (with_needs needs ms) ≡ false
needs_plain None ms h = h
needs_plain (Some needs) ms h =
    put_plain (codes "functions") (names_data needs.functions.items) (put (codes "names") (names_data needs.names.items) ms) (names_plain needs.functions.items) (put_plain (codes "names") (names_data needs.names.items) ms (names_plain needs.names.items) h)

place_plain : (file : List ℕ) (line : ℕ) (fault : Fault) → members_have_float (placed_members file line fault) ≡ false
place_plain file line (Syntax spot) =
    let base = with_base file spot.line false no_members in
    put_plain (codes "shown") (string (string_bytes spot.shown)) (put (codes "column") (number (unsigned spot.column)) base) refl (put_plain (codes "column") (number (unsigned spot.column)) base refl (base_plain file spot.line false))
place_plain file line Literal = base_plain file line false
place_plain file line TooHigh = base_plain file line false
place_plain file line TooHeavy = base_plain file line false
place_plain file line Memory = base_plain file line false

outcome_plain : (file : List ℕ) (line : ℕ) (outcome : CheckOutcome) → has_float (outcome_data file line outcome) ≡ false
outcome_plain file line (Sound sound) =
    let base = with_base file line true no_members in
    needs_plain sound.needs (with_text sound.text base) (text_plain sound.text base (base_plain file line true))
outcome_plain file line (Refused fault) =
    let placed = placed_members file line fault in
    let kind = put (codes "kind") (string (fault_kind fault)) placed in
    put_plain (codes "message") (string (fault_message fault)) kind refl (put_plain (codes "kind") (string (fault_kind fault)) placed refl (place_plain file line fault))

pub rule_plain : (file : List ℕ) (rule : CheckedRule) → has_float (rule_data file rule) ≡ false
rule_plain file rule = outcome_plain file rule.line rule.outcome
