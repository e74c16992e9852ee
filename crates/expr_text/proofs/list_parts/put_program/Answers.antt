use Rattle.expr_text.proofs.ListExpanding.{program_expand}
use Rattle.expr_text.proofs.list_parts.put_program.Goals as goal

pub returns : goal.returns
returns c =
    program_expand c.args.is_hashless c.args.program.now _ _ c.as_slice-lines.ensures.value c.apart.ensures c.in_ok-put_three.ensures
