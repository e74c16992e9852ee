-- What is counted in parts.
use Rattle.std.proofs.Common.{◌≡◌, ℕ, ◌+◌, Result, Ok, Err, IfOk, sym, ap, ◌∙◌, subst}

pub counted_as : {E : Type 0} (r : Result ℕ E) (k m : ℕ) → k ≡ m → IfOk r (λ n. n ≡ k) → IfOk r (λ n. n ≡ m)
counted_as (Ok n) k m is p = p ∙ is
counted_as (Err e) k m is p = tt

pub counted_inside : {E : Type 0} (r : Result ℕ E) (k m : ℕ) → k + 1 ≡ m → IfOk r (λ n. n ≡ k) → IfOk r (λ n. n + 1 ≡ m)
counted_inside (Ok n) k m is p = ap (λ x. x + 1) p ∙ is
counted_inside (Err e) k m is p = tt
