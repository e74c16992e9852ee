use Rattle.std.proofs.Common.{arith, ap, ◌∙◌}
use Rattle.expr_tree.proofs.Weights.{named_weight, lines-push, weight-Map}
use Rattle.expr_tree.proofs.chain.linked_pairs.Goals as goal

pub returns-in-Some-clause-parts : goal.returns-in-Some-clause-parts
returns-in-Some-clause-parts c =
    omega (
      arith,
      weight-Map c.push_reserved.new.self,
      ap named_weight c.push_reserved.ensures.items ∙ lines-push c.pop.new.self.items (c.in-Some.key, c.args.chain),
      ap named_weight c.in-Some.ensures.items ∙ lines-push c.pop.new.self.items (c.in-Some.key, c.in-Some.node),
    )

pub returns-in-Some-clause-first : goal.returns-in-Some-clause-first
returns-in-Some-clause-first c = omega (arith, ap named_weight c.in-Some.ensures.items ∙ lines-push c.pop.new.self.items (c.in-Some.key, c.in-Some.node))
