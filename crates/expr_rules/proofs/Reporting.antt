-- Rules that are checked one by one, and what is told of them.
use Rattle.std.proofs.Common.{◌≡◌, ℕ, Bool, Option, List, [], ◌∷◌, ◌++◌, refl, sym, ap, ◌∙◌, subst, string_bytes}
use Rattle.std.specs.List.{flat_map}
use Rattle.std.proofs.lemmas.Grind.{flat_map-append}
use Rattle.std.proofs.lemmas.List.{append-nil}
use Rattle.expr_limits.specs.declared.limits.Limits.{Limits}
use Rattle.expr_rules.specs.Checked.{AreChecked, IsCheckOutcome}
use Rattle.expr_rules.specs.Reports.{ReportsOn, err_text, out_text, with_outcome, with_rules}
use Rattle.expr_rules.specs.declared.checked.CheckedRule.{CheckedRule}
use Rattle.expr_rules.specs.declared.checked.Wishes.{Wishes}
use Rattle.expr_rules.specs.declared.checking.CheckReport.{CheckReport}
use Rattle.expr_rules.specs.declared.checking.Totals.{Totals}

-- one rule more
next_checked : (limits : Option Limits) (wishes : Wishes) (rules : List (ℕ × List ℕ)) (done : List CheckedRule) (rule : ℕ × List ℕ) (one : CheckedRule) → AreChecked limits wishes rules done
    → one.line ≡ rule.0 → IsCheckOutcome limits wishes rule.1 rule.0 one.outcome → AreChecked limits wishes (rules ++ rule ∷ []) (done ++ one ∷ [])
next_checked limits wishes [] [] rule one h line outcome = (line, (outcome, tt))
next_checked limits wishes [] (c ∷ cs) rule one h line outcome = absurd h
next_checked limits wishes (r ∷ rs) [] rule one h line outcome = absurd h
next_checked limits wishes (r ∷ rs) (c ∷ cs) rule one h line outcome = (h.0, (h.1.0, next_checked limits wishes rs cs rule one h.1.1 line outcome))

pub checked_more : (limits : Option Limits) (wishes : Wishes) (rules : List (ℕ × List ℕ)) (done more : List CheckedRule) (n : ℕ) (text : List ℕ) (one : CheckedRule) → AreChecked limits wishes rules done
    → one.line ≡ n → IsCheckOutcome limits wishes text n one.outcome → more ≡ done ++ one ∷ [] → AreChecked limits wishes (rules ++ (n, text) ∷ []) more
checked_more limits wishes rules done more n text one h line outcome is = subst (AreChecked limits wishes (rules ++ (n, text) ∷ [])) (sym is) (next_checked limits wishes rules done (n, text) one h line outcome)

with_rules-last : (before : Totals) (rules : List CheckedRule) (rule : CheckedRule) → with_rules before (rules ++ rule ∷ []) ≡ with_outcome (with_rules before rules) rule.outcome
with_rules-last before [] rule = refl
with_rules-last before (r ∷ rs) rule = with_rules-last (with_outcome before r.outcome) rs rule

flat_map-last : (f : CheckedRule → List ℕ) (rules : List CheckedRule) (rule : CheckedRule) → flat_map f (rules ++ rule ∷ []) ≡ flat_map f rules ++ f rule
flat_map-last f rules rule = flat_map-append f rules (rule ∷ []) ∙ ap (λ l. flat_map f rules ++ l) (append-nil (f rule))

pub told_more : (rules : List CheckedRule) (rule : CheckedRule) (is_json : Bool) (file : List ℕ) (before : Totals) (old new : CheckReport) → ReportsOn rules is_json file before old
    → string_bytes new.out ≡ string_bytes old.out ++ out_text is_json file rule → string_bytes new.err ≡ string_bytes old.err ++ err_text is_json file rule → new.totals ≡ with_outcome old.totals rule.outcome
    → ReportsOn (rules ++ rule ∷ []) is_json file before new
told_more rules rule is_json file before old new h out err totals = record {
  out = out ∙ ap (λ l. l ++ out_text is_json file rule) h.out ∙ sym (flat_map-last (out_text is_json file) rules rule);
  err = err ∙ ap (λ l. l ++ err_text is_json file rule) h.err ∙ sym (flat_map-last (err_text is_json file) rules rule);
  totals = totals ∙ ap (λ t. with_outcome t rule.outcome) h.totals ∙ sym (with_rules-last before rules rule);
}
