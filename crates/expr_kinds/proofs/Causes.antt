-- What follows where a literal excludes a cause.
use Rattle.std.proofs.Common.{◌≡◌, ℕ, zero, suc, ℤ, pos, negsuc, Bool, true, false, not, cond, ◌||◌, List, [], ◌∷◌, Some, None, slice_get, option_map, unwrap_or, bytes_eq, codes, rules, refl, sym, ap, ◌∙◌, subst}
use Rattle.std.specs.Ordering.{int_eq}
use Rattle.expr_error.specs.ErrorKind.{ErrorKind, evaluation}
use Rattle.expr_value.specs.Values.{integer_of, string_of}
use Rattle.expr_value.specs.declared.value.Value as value
use Rattle.expr_value.specs.declared.value.Value.{Value, the_lemmas}
use Rattle.expr_schema.specs.Kinds.{Effect, total, failing}
use Rattle.expr_kinds.specs.Effects.{AdmitsError, CoversEffect}
use Rattle.expr_kinds.specs.Causes.{Cause, Literals, AreKnown, literal_passes, is_direction, is_excluded, is_natural, is_not_negative, is_other_than_zero, negative_at, zero_at, direction_at, effect_under}

-- a value at the place of a literal that passes a test passes it
pub passes-there : (test : Value → Bool) (known : Literals) (vs : List Value) → AreKnown known vs → (n : ℕ) (w : Value) → slice_get vs n ≡ Some w → literal_passes test n known ≡ true → test w ≡ true
passes-there test [] vs k n w at p = absurd (cc p)
passes-there test (o ∷ os) [] k n w at p = absurd (cc at)
passes-there test (None ∷ os) (v ∷ vs) k zero w at p = absurd (cc p)
passes-there test (Some u ∷ os) (v ∷ vs) k zero w at p =
    let here : v ≡ w = cc at in
    subst (λ x. test x ≡ true) here (subst (λ x. test x ≡ true) (sym k.0) p)
passes-there test (None ∷ os) (v ∷ vs) k (suc n) w at p = passes-there test os vs k n w at p
passes-there test (Some u ∷ os) (v ∷ vs) k (suc n) w at p = passes-there test os vs k.1 n w at p

-- an error is admitted where nothing excludes its cause
pub admits-unless : (cause : Cause) (known : Literals) (f : ErrorKind) → (is_excluded cause known ≡ true → ⊥) → AdmitsError (effect_under cause known) f
admits-unless cause known f h = chosen (is_excluded cause known) h
  where
    chosen : (b : Bool) → (b ≡ true → ⊥) → AdmitsError (cond b total failing) f
    chosen true g = absurd (g refl)
    chosen false g = tt

-- every effect covers that of an excluded cause, and `failing` covers each effect
pub covers-total : (e : Effect) → CoversEffect e total
covers-total e f h = absurd h

pub failing-covers : (e : Effect) → CoversEffect failing e
failing-covers e f h = tt

-- more literals exclude no less
pub covers-known : (cause : Cause) (known : Literals) → CoversEffect (effect_under cause []) (effect_under cause known)
covers-known Cause.nothing known f h = h
covers-known Cause.content known f h = h
covers-known (Cause.zero_at n) known f h = tt
covers-known (Cause.negative_at n) known f h = tt
covers-known (Cause.direction_at n) known f h = tt

pub integer-read : (n : ℤ) → integer_of (value.Integer n) ≡ Some n
integer-read n = search (rules, the_lemmas)

string-read : (s : List ℕ) → string_of (value.String s) ≡ Some s
string-read s = search (rules, the_lemmas)

module _ (known : Literals) (vs : List Value) (are : AreKnown known vs) (n : ℕ) (w : Value) (at : slice_get vs n ≡ Some w) where
  -- a value that fails the test of a cause
  by-test : (cause : Cause) (test : Value → Bool) → is_excluded cause known ≡ literal_passes test n known → test w ≡ false → AdmitsError (effect_under cause known) evaluation
  by-test cause test is fails =
      admits-unless cause known evaluation (λ excluded. let wrong : true ≡ false = sym (passes-there test known vs are n w at (sym is ∙ excluded)) ∙ fails in absurd (cc wrong))

  -- an integer below zero, and zero
  pub admits-negative : (m : ℕ) → w ≡ value.Integer (negsuc m) → AdmitsError (effect_under (negative_at n) known) evaluation
  admits-negative m is = by-test (negative_at n) is_not_negative refl (ap is_not_negative is ∙ ap (λ o. unwrap_or (option_map is_natural o) false) (integer-read (negsuc m)))

  pub admits-zero : (i : ℤ) → w ≡ value.Integer i → int_eq i (pos 0) ≡ true → AdmitsError (effect_under (zero_at n) known) evaluation
  admits-zero i is none =
      by-test (zero_at n) is_other_than_zero refl (ap is_other_than_zero is ∙ ap (λ o. unwrap_or (option_map (λ j. not (int_eq j (pos 0))) o) false) (integer-read i) ∙ ap not none)

  -- a string that is no direction
  pub admits-direction : (s : List ℕ) → w ≡ value.String s → bytes_eq s (codes "desc") ≡ false → bytes_eq s (codes "asc") ≡ false → AdmitsError (effect_under (direction_at n) known) evaluation
  admits-direction s is no_desc no_asc =
      by-test (direction_at n) is_direction refl (
      ap is_direction is ∙ ap (λ o. unwrap_or (option_map (λ t. bytes_eq t (codes "desc") || bytes_eq t (codes "asc")) o) false) (string-read s)
      ∙ ap (λ b. b || bytes_eq s (codes "asc")) no_desc ∙ no_asc)
