-- What is put under a name stands under it by another writing of it.
use Rattle.std.proofs.Common.{◌≡◌, ◌∙◌, ℕ, List, Option, Some, ap, bytes_eq, cond}

pub stored : {X : Type 0} (n m key : List ℕ) (v : X) (now old : Option X) → now ≡ cond (bytes_eq n key) (Some v) old → n ≡ m → now ≡ cond (bytes_eq m key) (Some v) old
stored n m key v now old put same = put ∙ ap (λ k. cond (bytes_eq k key) (Some v) old) same
