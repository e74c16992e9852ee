use Rattle.std.proofs.Common.{◌++◌, [], ◌∷◌, map, sym, ap, ◌∙◌}
use Rattle.std.proofs.lemmas.List.{append-nil}
use Rattle.expr_syntax.specs.Places.{parts_in}
use Rattle.expr_syntax.specs.Waits.{waits}
use Rattle.expr_tree.specs.Children.{children, pairs_children, postfix_children, predicate_children, term_list}
use Rattle.expr_tree.specs.LentChildren.{program_children}
use Rattle.expr_tree.specs.Term.{term_pairs}
use Rattle.expr_tree.specs.TermOf.{line_term, postfix_term, predicate_term, term_of, terms_of}
use Rattle.expr_tree.proofs.Gathered.{both}
use Rattle.expr_tree.proofs.NodeChildren.{pairs-same, term_list-terms_of}
use Rattle.expr_tree.proofs.Shapes.{term_of-Array, term_of-Conditional, term_of-Func, term_of-Map, term_of-Postfix}
use Rattle.expr_syntax.proofs.Walking.{same_parts, then_parts, then_three}
use Rattle.expr_syntax.proofs.places.order.wait_for_children.Goals as goal

pub returns-in-Array : goal.returns-in-Array
returns-in-Array c =
    same_parts c.wait_for_all.result c.args.place _ _ (map term_of c.deref.result.now) _
    (sym (term_list-terms_of (map term_of c.deref.result.now)) ∙ ap (λ ns. term_list (terms_of (map term_of ns))) c.deref.ensures.value
    ∙ sym (ap (λ n. children (term_of n)) c.in-Array.is ∙ ap children (term_of-Array c.in-Array.items)))
    c.wait_for_all.ensures

pub returns-in-Map : goal.returns-in-Map
returns-in-Map c =
    same_parts c.wait_for_values.result c.args.place _ _ (map (λ l. term_of l.1) c.deref-in-Map.result.now) _
    (pairs-same c.deref-in-Map.result.now ∙ ap (λ ps. pairs_children (term_pairs (map line_term ps))) c.deref-in-Map.ensures.value
    ∙ sym (ap (λ n. children (term_of n)) c.in-Map.is ∙ ap children (term_of-Map c.in-Map.pairs)))
    c.wait_for_values.ensures

pub returns-in-None : goal.returns-in-None
returns-in-None c =
    let items = map term_of c.deref-in-Func.result.now in
    c.in_ok-wait_for_all-in-Func.ensures
    ∙ ap (λ l. waits c.args.waiting.now.items ++ parts_in c.args.place l)
    (sym (append-nil items) ∙ ap (λ ts. ts ++ []) (sym (term_list-terms_of items) ∙ ap (λ ns. term_list (terms_of (map term_of ns))) c.deref-in-Func.ensures.value)
    ∙ ap (λ p. term_list (terms_of (map term_of c.in-Func.args.items)) ++ predicate_children (predicate_term p)) (sym c.in-None.is)
    ∙ sym (ap (λ n. children (term_of n)) c.in-Func.is ∙ ap children (term_of-Func c.in-Func.ident c.in-Func.args c.in-Func.predicate)))

pub returns-in-Some : goal.returns-in-Some
returns-in-Some c =
    let items = map term_of c.deref-in-Func.result.now in
    then_parts c.wait_for_program.result c.args.place _ _ _ items (program_children c.deref-in-Some.result.now) _
    (sym (both (sym (term_list-terms_of items) ∙ ap (λ ns. term_list (terms_of (map term_of ns))) c.deref-in-Func.ensures.value) (ap program_children c.deref-in-Some.ensures)
    ∙ ap (λ p. term_list (terms_of (map term_of c.in-Func.args.items)) ++ predicate_children (predicate_term p)) (sym c.in-Some.is)
    ∙ sym (ap (λ n. children (term_of n)) c.in-Func.is ∙ ap children (term_of-Func c.in-Func.ident c.in-Func.args c.in-Func.predicate))))
    c.in_ok-wait_for_all-in-Func.ensures c.wait_for_program.ensures

pub returns-in_ok-wait_for-in-Postfix : goal.returns-in_ok-wait_for-in-Postfix
returns-in_ok-wait_for-in-Postfix c =
    let behind = postfix_children (postfix_term c.in-Postfix.operator) in
    then_parts c.wait_for_postfix.result c.args.place _ _ _ (term_of c.deref-in-Postfix.result.now ∷ []) behind _
    (ap (λ n. children (term_of n)) c.in-Postfix.is ∙ ap children (term_of-Postfix c.in-Postfix.operator c.in-Postfix.node) ∙ ap (λ n. term_of n ∷ behind) (sym c.deref-in-Postfix.ensures))
    c.in_ok-wait_for-in-Postfix.ensures c.wait_for_postfix.ensures

pub returns-in_ok-wait_for_program-in-Conditional : goal.returns-in_ok-wait_for_program-in-Conditional
returns-in_ok-wait_for_program-in-Conditional c =
    then_three c.wait_for_program-in-Conditional-2.result c.args.place _ _ _ _ (term_of c.deref-in-Conditional.result.now ∷ []) (program_children c.deref-in-Conditional-2.result.now) (program_children c.deref-in-Conditional-3.result.now) _
    (ap (λ n. children (term_of n)) c.in-Conditional.is ∙ ap children (term_of-Conditional c.in-Conditional.condition c.in-Conditional.consequent c.in-Conditional.alternative)
    ∙ (λ i. term_of ((sym c.deref-in-Conditional.ensures) i) ∷ (program_children ((sym c.deref-in-Conditional-2.ensures) i) ++ program_children ((sym c.deref-in-Conditional-3.ensures) i))))
    c.in_ok-wait_for-in-Conditional.ensures c.in_ok-wait_for_program-in-Conditional.ensures c.wait_for_program-in-Conditional-2.ensures
