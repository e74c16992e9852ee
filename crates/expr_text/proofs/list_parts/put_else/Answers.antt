use Rattle.std.proofs.Common.{◌≡◌, true, false}
use Rattle.expr_tree.specs.TermOf.{program_term}
use Rattle.expr_text.specs.Brackets.{block_is_if}
use Rattle.expr_text.proofs.ListExpanding.{else_if_expands, else_expands}
use Rattle.expr_text.proofs.list_parts.put_else.Goals as goal

pub returns-then-is_if : goal.returns-then-is_if
returns-then-is_if c =
    let is : block_is_if (program_term c.args.program.now) ≡ true = cc in
    else_if_expands c.args.is_hashless c.args.program.now _ is c.apart.ensures c.in_ok-put.ensures

pub returns : goal.returns
returns c =
    let is : block_is_if (program_term c.args.program.now) ≡ false = cc in
    else_expands c.args.is_hashless c.args.program.now is c.in_ok-put_three.ensures
