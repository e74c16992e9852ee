use Rattle.std.proofs.Common.{map, sym, ap, ◌∙◌}
use Rattle.expr_tree.specs.Children.{term_list, postfix_children}
use Rattle.expr_tree.specs.TermOf.{term_of, postfix_term, terms_of}
use Rattle.expr_tree.proofs.NodeChildren.{term_list-terms_of}
use Rattle.expr_tree.proofs.Shapes.{term_of-Method}
use Rattle.expr_syntax.proofs.Walking.{same_parts}
use Rattle.expr_syntax.proofs.places.order.wait_for_postfix.Goals as goal

pub returns-in-Method : goal.returns-in-Method
returns-in-Method c =
    same_parts c.wait_for_all.result c.args.place _ _ (map term_of c.deref-in-Method.result.now) _
    (sym (term_list-terms_of (map term_of c.deref-in-Method.result.now)) ∙ ap (λ ns. term_list (terms_of (map term_of ns))) c.deref-in-Method.ensures.value
    ∙ sym (ap (λ p. postfix_children (postfix_term p)) c.in-Method.is ∙ ap postfix_children (term_of-Method c.in-Method.ident c.in-Method.args)))
    c.wait_for_all.ensures
