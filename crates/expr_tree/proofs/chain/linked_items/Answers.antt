use Rattle.std.proofs.Common.{arith, ap, ◌∙◌}
use Rattle.expr_tree.proofs.Weights.{items_weight, items-push, weight-Array}
use Rattle.expr_tree.proofs.chain.linked_items.Goals as goal

pub returns-in-Some-clause-parts : goal.returns-in-Some-clause-parts
returns-in-Some-clause-parts c =
    omega (
      arith,
      weight-Array c.push_reserved.new.self,
      ap items_weight c.push_reserved.ensures.items ∙ items-push c.pop.new.self.items c.args.chain,
      ap items_weight c.in-Some.ensures.items ∙ items-push c.pop.new.self.items c.in-Some.node,
    )

pub returns-in-Some-clause-first : goal.returns-in-Some-clause-first
returns-in-Some-clause-first c = omega (arith, ap items_weight c.in-Some.ensures.items ∙ items-push c.pop.new.self.items c.in-Some.node)
