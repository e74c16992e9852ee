use Rattle.expr_tree.specs.TermOf.{term_of, bound_term}
use Rattle.expr_text.proofs.Expanding.{slice_expands}
use Rattle.expr_text.proofs.postfix_parts.put_slice.Goals as goal

pub returns : goal.returns
returns c =
    slice_expands c.args.place (bound_term c.args.start.now) (bound_term c.args.end.now) (term_of c.args.operand.now) _ _ _ _ c.ahead.ensures c.colon.ensures c.bound_part-2.ensures c.bound_part.ensures c.in_ok-put_three.ensures c.in_ok-put_three-2.ensures
