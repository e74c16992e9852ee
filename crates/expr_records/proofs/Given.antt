-- What is known of a value that a call returned, or of its error.
use Rattle.std.proofs.Common.{◌≡◌, refl, sym, ap, ◌∙◌, Result, Ok, Err}
use Rattle.std.specs.Prelude.{Option, None, Some, option_and_then, option_map}
use Rattle.std.proofs.lemmas.Option.{same_Some}
use Rattle.expr_encoding.specs.Optional.{value_or_refusal}
use Rattle.expr_error.specs.ErrorKind.{ErrorKind}

module _ {A : Type 0} where
  abbrev taken : Result A ErrorKind → Option A
  taken (Ok v) = Some v
  taken (Err e) = None

  taken_of_given : (o : Option A) → taken (value_or_refusal o) ≡ o
  taken_of_given (Some v) = refl
  taken_of_given None = refl

  pub given_ok : (o : Option A) (v : A) → value_or_refusal o ≡ Ok v → o ≡ Some v
  given_ok o v e = sym (taken_of_given o) ∙ ap taken e

  pub given_err : (o : Option A) (e : ErrorKind) → value_or_refusal o ≡ Err e → o ≡ None
  given_err o e p = sym (taken_of_given o) ∙ ap taken p

-- what comes of a value, where it is known whether there is one
pub flat : {A B : Type 0} (f : A → Option B) (o : Option A) (b : Option B) → option_map f o ≡ Some b → option_and_then f o ≡ b
flat f None b e = absurd (cc)
flat f (Some a) b e = same_Some _ _ e

pub none_before : {A B : Type 0} (f : A → Option B) (o : Option A) → option_map f o ≡ None → o ≡ None
none_before f None e = refl
none_before f (Some a) e = absurd (cc)
