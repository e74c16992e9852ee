-- A verdict and its opposite.
use Rattle.std.proofs.Common.{Bool, not, Option, Some, None, refl, inl, inr}
use Rattle.std.specs.Option.{option_map}
use Rattle.expr_operators.specs.Operators.{AreOpposite, truth_or_refusal}

pub judged_opposite : (o : Option Bool) → AreOpposite (truth_or_refusal o) (truth_or_refusal (option_map not o))
judged_opposite (Some t) = inl (t, refl, refl)
judged_opposite None = inr (refl, refl)
