-- What an expression may return by its effect.
use Rattle.std.specs.Prelude.{◌≡◌, Result, Ok, Err}
use Rattle.expr_error.specs.ErrorKind.{ErrorKind, pattern}
use Rattle.expr_schema.specs.Kinds.{Effect, total, matching, failing}

-- the effect admits this error
abbrev pub AdmitsError : Effect → ErrorKind → Type 0
AdmitsError total f = ⊥
AdmitsError matching f = f ≡ pattern
AdmitsError failing f = Unit {0}

-- a result is a value with a property, or an error that the effect admits
abbrev pub ResultIs : {A : Type 0} → Effect → (A → Type 0) → Result A ErrorKind → Type 0
ResultIs e P (Ok v) = P v
ResultIs e P (Err f) = AdmitsError e f

-- each allowed result is a value with a property, or an error that the effect admits
abbrev pub Yields : {A : Type 0} → Effect → (A → Type 0) → (Result A ErrorKind → Type 0) → Type 0
Yields {A} e P allowed = (a : Result A ErrorKind) → allowed a → ResultIs e P a

-- the first effect admits what the second does
abbrev pub CoversEffect : Effect → Effect → Type 0
CoversEffect e part = (f : ErrorKind) → AdmitsError part f → AdmitsError e f
