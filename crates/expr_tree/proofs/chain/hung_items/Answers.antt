use Rattle.std.proofs.Common.{arith, ap, ◌∙◌}
use Rattle.expr_tree.proofs.Weights.{items_weight, items-push}
use Rattle.expr_tree.proofs.chain.hung_items.Goals as goal

pub loop-item-preserved : goal.loop-item-preserved
loop-item-preserved c = omega (arith, c.loop-item.invariant, c.hang-chain.ensures, ap items_weight c.in-Some.ensures.items ∙ items-push c.pop.new.self.items c.in-Some.item)
