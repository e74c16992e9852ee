use Rattle.std.proofs.Common.{◌≡◌, true}
use Rattle.expr_tree.specs.TermOf.{term_of}
use Rattle.expr_text.specs.Brackets.{needs_brackets}
use Rattle.expr_text.proofs.Expanding.{brackets_expand}
use Rattle.expr_text.proofs.node_parts.put_node.Goals as goal

pub returns-then-needs_brackets : goal.returns-then-needs_brackets
returns-then-needs_brackets c =
    let needs : needs_brackets (term_of c.args.node.now) c.args.place.left c.args.place.right ≡ true = cc in
    brackets_expand c.args.place (term_of c.args.node.now) _ c.apart-inside.ensures needs c.in_ok-put_three.ensures
