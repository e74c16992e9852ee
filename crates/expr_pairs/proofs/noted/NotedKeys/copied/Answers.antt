use Rattle.std.proofs.Common.{◌≡◌, sym, subst, ◌∙◌}
use Rattle.std.specs.List.{IsDistinct}
use Rattle.std.proofs.lemmas.List.Elements.{same_from_all_zip}
use Rattle.expr_pairs.proofs.Noting.{noted_as}
use Rattle.expr_pairs.proofs.noted.NotedKeys.copied.Goals as goal

pub invariant_of-result : goal.invariant_of-result
invariant_of-result g c =
    let keys : c.in_ok-keys.keys.items ≡ c.self.inside.keys.items = same_from_all_zip _ _ _ c.in_ok-keys.ensures.cases.0 c.requires.exact in
    let places : c.in_ok-places.places.entries ≡ c.self.inside.places.entries = same_from_all_zip _ _ _ c.in_ok-places.ensures.cases (λ p q h i. (h.0 i, h.1 i)) in
    (subst (IsDistinct g.K.PartialEq.eq) (sym keys) c.self.invariant.0, noted_as _ _ _ _ _ keys places c.self.invariant.1)

pub returns : goal.returns
returns g c = same_from_all_zip _ _ _ c.in_ok-keys.ensures.cases.0 c.requires.exact ∙ c.self.view_is
