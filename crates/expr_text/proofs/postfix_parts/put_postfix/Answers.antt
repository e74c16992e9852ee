use Rattle.std.proofs.Common.{◌≡◌, IfOk, sym, ap, ◌∙◌, subst}
use Rattle.expr_tree.specs.TermOf.{term_of, postfix_term, bound_term}
use Rattle.expr_tree.specs.Term.{postfix, slice}
use Rattle.expr_tree.proofs.Shapes.{term_of-Slice}
use Rattle.expr_text.specs.Parts.{NodeExpands}
use Rattle.expr_text.proofs.postfix_parts.put_postfix.Goals as goal

pub returns-in-Range : goal.returns-in-Range
returns-in-Range c =
    let same : postfix_term c.args.operator.now ≡ slice (bound_term c.in-Range.start) (bound_term c.in-Range.end) = ap postfix_term c.in-Range.is ∙ term_of-Slice c.in-Range.start c.in-Range.end in
    subst (λ p. IfOk c.put_slice.result (λ done. NodeExpands done c.args.pending.now.items c.put_slice.new.pending.items (postfix p (term_of c.args.operand.now)) c.args.place)) (sym same) c.put_slice.ensures
