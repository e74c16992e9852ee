use Rattle.std.proofs.Common.{arith, ap, ◌∙◌}
use Rattle.expr_tree.proofs.Weights.{named_weight, lines-push}
use Rattle.expr_tree.proofs.chain.shortened_pairs.Goals as goal

pub returns-in-Some : goal.returns-in-Some
returns-in-Some c = omega (arith, c.hung_lines.ensures, ap named_weight c.in-Some.ensures.items ∙ lines-push c.pop.new.self.items (c.in-Some._key, c.in-Some.chain))
