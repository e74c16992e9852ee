use Rattle.std.proofs.Common.{◌∷◌, map, sym, ap, ◌∙◌}
use Rattle.expr_tree.specs.Children.{term_list, postfix_children}
use Rattle.expr_tree.specs.TermOf.{term_of, postfix_term, terms_of}
use Rattle.expr_tree.proofs.NodeChildren.{items-same}
use Rattle.expr_tree.proofs.Shapes.{term_of-Method}
use Rattle.expr_tree.proofs.children.postfix_children.Goals as goal

pub returns-in-Method-clause-children : goal.returns-in-Method-clause-children
returns-in-Method-clause-children c =
    ap (λ ts. term_of c.args.operand.now ∷ ts)
    (items-same (map term_of c.deref-in-Method.result.now) ∙ ap (λ ns. term_list (terms_of (map term_of ns))) c.deref-in-Method.ensures.value
    ∙ sym (ap (λ p. postfix_children (postfix_term p)) c.in-Method.is ∙ ap postfix_children (term_of-Method c.in-Method.ident c.in-Method.args)))
