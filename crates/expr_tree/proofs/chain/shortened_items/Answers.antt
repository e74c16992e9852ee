use Rattle.std.proofs.Common.{arith, ap, ◌∙◌}
use Rattle.expr_tree.proofs.Weights.{items_weight, items-push}
use Rattle.expr_tree.proofs.chain.shortened_items.Goals as goal

pub returns-in-Some : goal.returns-in-Some
returns-in-Some c = omega (arith, c.hung_items.ensures, ap items_weight c.in-Some.ensures.items ∙ items-push c.pop.new.self.items c.in-Some.chain)
