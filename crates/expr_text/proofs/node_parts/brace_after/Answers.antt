use Rattle.std.proofs.Common.{true, false}
use Rattle.expr_text.proofs.ListExpanding.{brace_is}
use Rattle.expr_text.proofs.node_parts.brace_after.Goals as goal

pub returns-else-is_empty : goal.returns-else-is_empty
returns-else-is_empty c =
    (brace_is c.args.arguments.now c.is_empty.result c.is_empty.ensures).1 c.if-is_empty.false
