-- How a result follows from the results of its parts.
use Rattle.std.proofs.Common.{◌≡◌, Bool, true, false, Result, Ok, Err, MatchBool, refl, sym, subst}
use Rattle.expr_error.specs.ErrorKind.{ErrorKind}
use Rattle.expr_value.specs.Answers.{Then, ThenIfOk}
use Rattle.expr_schema.specs.Kinds.{Effect}
use Rattle.expr_kinds.specs.Effects.{ResultIs, Yields, CoversEffect}

-- a value of what is wanted
pub value-yields : {A : Type 0} (e : Effect) (P : A → Type 0) (v : A) → P v → Yields e P (λ a. a ≡ Ok v)
value-yields e P v h a p = subst (λ r. ResultIs e P r) (sym p) h

-- what equals a result that is as wanted
pub same-yields : {A : Type 0} (e : Effect) (P : A → Type 0) (r : Result A ErrorKind) → ResultIs e P r → Yields e P (λ a. a ≡ r)
same-yields e P r h a p = subst (λ s. ResultIs e P s) (sym p) h

-- less is wanted, of more effects
pub ResultIs-under : {A : Type 0} (e d : Effect) (P Q : A → Type 0) → ((v : A) → P v → Q v) → CoversEffect d e → (a : Result A ErrorKind) → ResultIs e P a → ResultIs d Q a
ResultIs-under e d P Q f g (Ok v) h = f v h
ResultIs-under e d P Q f g (Err x) h = g x h

pub ResultIs-weaker : {A : Type 0} (e : Effect) (P Q : A → Type 0) → ((v : A) → P v → Q v) → (a : Result A ErrorKind) → ResultIs e P a → ResultIs e Q a
ResultIs-weaker e P Q f a h = ResultIs-under e e P Q f (λ x y. y) a h

pub ThenIfOk-yields : {A B : Type 0} (e : Effect) (P : A → Type 0) (Q : B → Type 0) (x : Result A ErrorKind) (next : A → Result B ErrorKind → Type 0)
    → ResultIs e P x → ((v : A) → P v → Yields e Q (next v)) → Yields e Q (ThenIfOk x next)
ThenIfOk-yields e P Q (Ok v) next p n r q = n v p r q
ThenIfOk-yields e P Q (Err f) next p n r q = subst (λ s. ResultIs e Q s) (sym q) p

pub Then-yields : {A B : Type 0} (e : Effect) (P : A → Type 0) (Q : B → Type 0) (first : Result A ErrorKind → Type 0) (next : A → Result B ErrorKind → Type 0)
    → Yields e P first → ((v : A) → P v → Yields e Q (next v)) → Yields e Q (Then first next)
Then-yields e P Q first next f n r p = ThenIfOk-yields e P Q p.0 next (f p.0 p.1) n r p.2

-- a value with its property, and that it is allowed
pub with-allowed : {A : Type 0} (e : Effect) (P : A → Type 0) (allowed : Result A ErrorKind → Type 0) → Yields e P allowed → Yields e (λ v. P v × allowed (Ok v)) allowed
with-allowed e P allowed f (Ok v) p = (f (Ok v) p, p)
with-allowed e P allowed f (Err x) p = f (Err x) p

-- the value of a first step, where a second one follows
module _ {A B : Type 0} where
  pub then-value : (first : Result A ErrorKind → Type 0) (next : A → Result B ErrorKind → Type 0) (b : B) → Then first next (Ok b) → (x : A) × first (Ok x) × next x (Ok b)
  then-value first next b (Ok x, p, q) = (x, p, q)
  then-value first next b (Err f, p, q) = absurd (cc q)

-- one of two
pub either-yields : {A : Type 0} (e : Effect) (P : A → Type 0) (b : Bool) (first second : Result A ErrorKind → Type 0)
    → (b ≡ true → Yields e P first) → (b ≡ false → Yields e P second) → Yields e P (λ a. MatchBool b (first a) (second a))
either-yields e P true first second f g a p = f refl a p
either-yields e P false first second f g a p = g refl a p
