-- Distinct keys, each at its first position.
use Rattle.std.specs.Prelude.{Bool, not, List, [], ◌∷◌}
use Rattle.std.specs.List.{filter}

-- each key once, at its first position
abbrev pub first_places : {K : Type 0} → (K → K → Bool) → List K → List K
first_places eq [] = []
first_places eq (k ∷ ks) = k ∷ filter (λ l. not (eq k l)) (first_places eq ks)
