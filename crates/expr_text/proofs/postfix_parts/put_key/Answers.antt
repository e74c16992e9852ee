use Rattle.expr_tree.specs.TermOf.{term_of}
use Rattle.expr_text.proofs.Expanding.{key_expands}
use Rattle.expr_text.proofs.postfix_parts.put_key.Goals as goal

pub returns : goal.returns
returns c =
    key_expands c.args.place (term_of c.args.key.now) (term_of c.args.operand.now) c.args.is_optional _ _ _ c.requires c.ahead.ensures c.apart.ensures c.opening.ensures c.in_ok-put_three.ensures c.in_ok-put.ensures
