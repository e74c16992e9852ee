use Rattle.std.proofs.Common.{◌≡◌, ◌==◌, true, false, length, sym, ◌∙◌}
use Rattle.expr_text.proofs.ListExpanding.{if_alone, if_behind_lines}
use Rattle.expr_text.proofs.list_parts.is_if.Goals as goal

pub returns-then-is_empty : goal.returns-then-is_empty
returns-then-is_empty c =
    let none : (length c.as_slice-lines.result.now == 0) ≡ true = cc in
    c.is_choice.ensures ∙ sym (if_alone c.args.program.now c.as_slice-lines.result.now c.as_slice-lines.ensures.value none)

pub returns-else-is_empty : goal.returns-else-is_empty
returns-else-is_empty c =
    let some : (length c.as_slice-lines.result.now == 0) ≡ false = cc in
    sym (if_behind_lines c.args.program.now c.as_slice-lines.result.now c.as_slice-lines.ensures.value some)
