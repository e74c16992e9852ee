use Rattle.std.proofs.Common.{[], refl, sym, subst}
use Rattle.std.specs.List.{IsDistinct}
use Rattle.expr_pairs.proofs.Noting.{noted_as, noted_none}
use Rattle.expr_pairs.proofs.noted.NotedKeys.with_capacity.Goals as goal

pub invariant_of-result : goal.invariant_of-result
unfolding IsDistinct
invariant_of-result g c =
    let items = c.in_ok-with_capacity.ensures.items in
    (subst (IsDistinct g.K.PartialEq.eq) (sym items) tt, noted_as _ [] _ c.new.result _ items refl (noted_none _ c.new.result c.new.ensures.empty))
