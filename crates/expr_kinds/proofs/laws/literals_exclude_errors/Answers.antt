use Rattle.std.proofs.Common.{◌≡◌, ℕ, ℤ, pos, Bool, true, false, not, cond, List, [], ◌∷◌, Option, Some, None, option_map, unwrap_or, MatchOption, FitsSigned, Ok, Err, codes, refl, sym, ap, ◌∙◌, subst, inl, inr}
use Rattle.std.specs.Int.{w64}
use Rattle.std.specs.Ordering.{int_eq}
use Rattle.expr_builtins.specs.Conversions.{IntLayer, IsInteger, ReadsInteger}
use Rattle.expr_datetime.specs.declared.moment.DateTimeValue.{DateTimeValue}
use Rattle.expr_datetime.specs.declared.zone.TimezoneValue.{TimezoneValue}
use Rattle.expr_functions.specs.Functions.{builtin_named}
use Rattle.expr_functions.specs.declared.functions.Builtin.{Builtin}
use Rattle.expr_functions.specs.declared.functions.Builtin.TheVariants.{OnValues}
use Rattle.expr_functions.specs.declared.functions.CollectionCall.TheVariants.{Take}
use Rattle.expr_functions.specs.declared.functions.ConversionCall.TheVariants.{Int}
use Rattle.expr_functions.specs.declared.functions.TimeCall.TheVariants.{Duration}
use Rattle.expr_functions.specs.declared.functions.ValueCall.{ValueCall}
use Rattle.expr_functions.specs.declared.functions.ValueCall.TheVariants.{Collection, Conversion, Time}
use Rattle.expr_meaning.specs.Calls.{AllowsOnValues}
use Rattle.expr_time.specs.Durations.{SpellsLength}
use Rattle.expr_time.specs.LengthMethods.{OfText, ReadsLength}
use Rattle.expr_tree.specs.Term.{Term, call, literal, no_predicate, no_terms, term}
use Rattle.expr_value.specs.declared.value.Value as value
use Rattle.expr_value.specs.declared.value.Value.{Value}
use Rattle.expr_value.specs.declared.value.Value.TheOpen.{Value-F}
use Rattle.expr_kinds.specs.Causes.{Literals, is_natural, is_not_negative, is_other_than_zero}
use Rattle.expr_schema.specs.Kinds.{Kind, array, duration, integer, string, HasKind, total, failing}
use Rattle.expr_kinds.specs.Effects.{CoversEffect, Yields}
use Rattle.expr_kinds.specs.Overloads.{overloads}
use Rattle.expr_schema.specs.Scopes.{Scope}
use Rattle.expr_kinds.specs.Tables.{rows}
use Rattle.expr_kinds.specs.Typed.{BuiltinGives, ByOverload, BySignature, OneOf, Typed, host_timed, literal_of}
use Rattle.expr_kinds.proofs.Causes.{covers-total, integer-read}
use Rattle.expr_kinds.proofs.Found.{read-string}
use Rattle.expr_kinds.proofs.Layers.{at-layer, out-string}
use Rattle.expr_kinds.proofs.laws.literals_exclude_errors.Goals as goal

-- nothing is admitted where a literal excludes the cause
excluded : (b : Bool) → b ≡ true → CoversEffect total (cond b total failing)
excluded b q = subst (λ c. CoversEffect total (cond c total failing)) (sym q) (covers-total total)

other-than-zero : (n : ℤ) → int_eq n (pos 0) ≡ false → is_other_than_zero (value.Integer n) ≡ true
other-than-zero n q = ap (λ o. unwrap_or (option_map (λ m. not (int_eq m (pos 0))) o) false) (integer-read n) ∙ ap not q

not-negative : (n : ℕ) → is_not_negative (value.Integer (pos n)) ≡ true
not-negative n = ap (λ o. unwrap_or (option_map is_natural o) false) (integer-read (pos n))

pub returns-clause-remainder : goal.returns-clause-remainder
unfolding rows
returns-clause-remainder c = λ s t n other typed.
    inl (inl ((integer, typed, λ v h. h), (integer, (n, refl), λ v h. h), refl, excluded (is_other_than_zero (value.Integer n)) (other-than-zero n other)))

take-named : builtin_named (codes "take") ≡ Some (OnValues (Collection Take))
unfolding builtin_named
take-named = refl

module _ (s : Scope) (t : Term) (k : Kind) (n : ℕ) where
  abbrev known : Literals
  known = literal_of t ∷ Some (value.Integer (pos n)) ∷ []

  by-table : OneOf (ByOverload total known (array k ∷ integer ∷ []) (array k)) (overloads (Collection Take) k)
  unfolding overloads
  by-table = inl ((λ v h. h, (λ v h. h, tt)), refl, excluded (is_not_negative (value.Integer (pos n))) (not-negative n))

pub returns-clause-take : goal.returns-clause-take
returns-clause-take c = λ s t k n none typed.
    inl (
      array k ∷ integer ∷ [],
      (array k, integer ∷ [], refl, (array k, typed, λ v h. h), (integer, [], refl, (integer, (pos n, refl), λ v h. h), refl)),
      subst (λ o. MatchOption o (BuiltinGives total s (builtin_named (codes "take")) (known s t k n) (array k ∷ integer ∷ []) false (λ inside item answer. answer ≡ item) (array k)) (BySignature total (array k ∷ integer ∷ []) (array k))) (sym none)
          (subst (λ b. BuiltinGives total s b (known s t k n) (array k ∷ integer ∷ []) false (λ inside item answer. answer ≡ item) (array k)) (sym take-named) (inl (k, by-table s t k n))),
    )

-- a call whose only argument is a literal string
module _ (s : Scope) (key text : List ℕ) (f : ValueCall) (k : Kind) (none : s.functions key ≡ None) (named : builtin_named key ≡ Some (OnValues f))
    (yields : (zones : List ℕ → Option TimezoneValue) (moment : Option DateTimeValue) → Yields total (λ v. HasKind k v) (AllowsOnValues (host_timed zones moment) f (value.String text ∷ []))) where
  abbrev Gives : Option Builtin → Type 0
  Gives b = BuiltinGives total s b (Some (value.String text) ∷ []) (string ∷ []) false (λ inside item answer. answer ≡ item) k

  of-literal : Typed total s (call key (term (literal (value.String text)) no_terms) no_predicate) k
  of-literal =
      inl (
        string ∷ [],
        (string, [], refl, (string, (text, refl), λ v h. h), refl),
        subst (λ o. MatchOption o (Gives (builtin_named key)) (BySignature total (string ∷ []) k)) (sym none) (subst Gives (sym named) (inr (inl (value.String text ∷ [], refl, yields)))),
      )

int-named : builtin_named (codes "int") ≡ Some (OnValues (Conversion Int))
unfolding builtin_named
int-named = refl

duration-named : builtin_named (codes "duration") ≡ Some (OnValues (Time Duration))
unfolding builtin_named
duration-named = refl

reads : (text : List ℕ) → IsInteger text → Yields total (λ v. HasKind integer v) (ReadsInteger text)
reads text is (Ok v) p = (_, p.1)
reads text is (Err f) p = absurd (p.0 is)

spells : (text : List ℕ) (n : ℤ) → FitsSigned w64 n → SpellsLength text n → Yields total (λ v. HasKind duration v) (ReadsLength text)
spells text n fits is (Ok v) (m, fits_m, is_m, q) = (m, q)
spells text n fits is (Err f) p = absurd (p.0 n fits is)

pub returns-clause-int : goal.returns-clause-int
returns-clause-int c = λ s text none is.
    of-literal s (codes "int") text (Conversion Int) integer none int-named (λ zones moment. at-layer (λ l. Yields total (λ v. HasKind integer v) (IntLayer l)) (value.String text) (Value-F.String text) (out-string text) (reads text is))

pub returns-clause-duration : goal.returns-clause-duration
returns-clause-duration c = λ s text n none fits is.
    of-literal s (codes "duration") text (Time Duration) duration none duration-named (λ zones moment. subst (λ o. Yields total (λ v. HasKind duration v) (OfText o)) (sym (read-string text)) (spells text n fits is))
