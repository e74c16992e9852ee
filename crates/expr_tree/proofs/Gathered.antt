-- Two parts of a list, and of a choice.
use Rattle.std.proofs.Common.{◌≡◌, Bool, true, false, ◌||◌, List, ◌++◌, refl}

-- both parts of a list
pub both : {X : Type 0} {xs xs' ys ys' : List X} → xs ≡ xs' → ys ≡ ys' → (xs ++ ys) ≡ (xs' ++ ys')
both p q = λ i. p i ++ q i

pub or_true : (a : Bool) → (a || true) ≡ true
or_true true = refl
or_true false = refl
