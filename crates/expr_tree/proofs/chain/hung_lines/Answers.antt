use Rattle.std.proofs.Common.{arith, ap, ◌∙◌}
use Rattle.expr_tree.proofs.Weights.{named_weight, lines-push}
use Rattle.expr_tree.proofs.chain.hung_lines.Goals as goal

pub loop-name-preserved : goal.loop-name-preserved
loop-name-preserved c =
    omega (arith, c.loop-name.invariant, c.hang-chain.ensures, ap named_weight c.in-Some.ensures.items ∙ lines-push c.pop.new.self.items (c.in-Some._name, c.in-Some.value))
