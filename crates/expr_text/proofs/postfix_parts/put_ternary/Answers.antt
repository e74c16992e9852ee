use Rattle.expr_tree.specs.TermOf.{term_of}
use Rattle.expr_text.proofs.Expanding.{ternary_expands}
use Rattle.expr_text.proofs.postfix_parts.put_ternary.Goals as goal

pub returns : goal.returns
returns c =
    ternary_expands c.args.place (term_of c.args.first.now) (term_of c.args.second.now) (term_of c.args.condition.now) _ _ _ c.requires c.ahead.ensures c.apart-2.ensures c.apart.ensures c.in_ok-put_three.ensures c.in_ok-put_three-2.ensures
