use Rattle.std.proofs.Common.{arith}
use Rattle.expr_tree.proofs.Weights.{program-parts}
use Rattle.expr_tree.proofs.chain.hung_program.Goals as goal

pub returns : goal.returns
returns c = omega (arith, program-parts c.args.program, c.hang.ensures, c.hung_lines.ensures)
