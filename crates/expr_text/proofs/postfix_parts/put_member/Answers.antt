use Rattle.std.proofs.Common.{◌≡◌, ◌&&◌, not, false}
use Rattle.expr_tree.specs.TermOf.{term_of}
use Rattle.expr_text.specs.Trees.{is_item}
use Rattle.expr_text.proofs.Expanding.{member_expands}
use Rattle.expr_text.proofs.postfix_parts.put_member.Goals as goal

pub returns : goal.returns
returns c =
    let none : (is_item (term_of c.args.operand.now) && not c.args.is_optional) ≡ false = cc in
    member_expands c.args.place c.args.word.now (term_of c.args.operand.now) c.args.is_optional _ _ c.requires none c.ahead.ensures c.dot.ensures c.in_ok-put_three.ensures
