-- What is known of a tree by way of the relation.
use Rattle.std.proofs.Common.{List, [], ◌∷◌, Ok, Err, sym, subst, inl, inr}
use Rattle.expr_value.specs.Answers.{Answer}
use Rattle.expr_schema.specs.Kinds.{Kind, HasKind, Each, Effect}
use Rattle.expr_kinds.specs.Effects.{AdmitsError, Yields}
use Rattle.expr_kinds.specs.Typed.{OneOf, Unknown, Within}
use Rattle.expr_kinds.proofs.Answered.{ResultIs-weaker}

pub Within-yields : (e : Effect) (typed : Kind → Type 0) (allowed : Answer → Type 0) → ((a : Kind) → typed a → Yields e (λ v. HasKind a v) allowed) → (k : Kind) → Within typed k → Yields e (λ v. HasKind k v) allowed
Within-yields e typed allowed f k (b, t, fits) a p = ResultIs-weaker e (λ v. HasKind b v) (λ v. HasKind k v) fits a (f b t a p)

pub Unknown-yields : (e : Effect) (k : Kind) → Unknown e k → (allowed : Answer → Type 0) → Yields e (λ v. HasKind k v) allowed
Unknown-yields e k (p, q) allowed (Ok v) h = subst (λ j. HasKind j v) (sym q) tt
Unknown-yields e k (p, q) allowed (Err f) h = subst (λ d. AdmitsError d f) (sym p) tt

-- one of some, each of which says enough
pub OneOf-use : {X : Type 0} (P Q : X → Type 0) (R : Type 0) (xs : List X) → Each Q xs → OneOf P xs → ((x : X) → P x → Q x → R) → R
OneOf-use P Q R [] q p f = absurd p
OneOf-use P Q R (x ∷ xs) q (inl p) f = f x p q.0
OneOf-use P Q R (x ∷ xs) q (inr p) f = OneOf-use P Q R xs q.1 p f
