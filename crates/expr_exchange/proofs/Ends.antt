-- Lists by their last.
use Rattle.std.proofs.Common.{◌≡◌, List, [], ◌∷◌, ◌++◌}

-- a list that has a last isn't empty
pub none_ends : {A : Type 0} (front : List A) (last : A) → front ++ last ∷ [] ≡ [] → ⊥
none_ends [] last e = cc e
none_ends (x ∷ xs) last e = cc e

-- a list has one last
pub one_last : {A : Type 0} (front other : List A) (last is : A) → front ++ last ∷ [] ≡ other ++ is ∷ [] → last ≡ is
one_last [] [] last is e = cc e
one_last [] (y ∷ ys) last is e = let n : ys ++ is ∷ [] ≡ [] = cc e in absurd (none_ends ys is n)
one_last (x ∷ xs) [] last is e = let n : xs ++ last ∷ [] ≡ [] = cc e in absurd (none_ends xs last n)
one_last (x ∷ xs) (y ∷ ys) last is e = one_last xs ys last is (cc e)
