use Rattle.std.proofs.Common.{arith}
use Rattle.expr_tree.specs.TermOf.{term_of}
use Rattle.expr_text.proofs.Counting.{infix_low}
use Rattle.expr_text.proofs.Expanding.{infix_expands}
use Rattle.expr_text.proofs.node_parts.put_infix.Goals as goal

pub returns : goal.returns
returns c =
    infix_expands c.args.place c.args.sign (term_of c.args.left.now) (term_of c.args.right.now) _ _ _ _ _ c.requires c.ahead.ensures c.level.ensures c.infix_text.ensures c.behind.ensures c.infix_catch.ensures c.in_ok-put_three.ensures
