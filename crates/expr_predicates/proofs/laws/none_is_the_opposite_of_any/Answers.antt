use Rattle.std.proofs.Common.{[]}
use Rattle.expr_predicates.proofs.Opposite.{none_opposite}
use Rattle.expr_predicates.proofs.laws.none_is_the_opposite_of_any.Goals as goal

pub returns : goal.returns
returns g c = λ predicate items x y one p q. none_opposite (g.P.Predicate.may predicate) x y items [] one p q
