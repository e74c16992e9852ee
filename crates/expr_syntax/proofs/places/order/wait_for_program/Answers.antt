use Rattle.std.proofs.Common.{◌++◌, [], ◌∷◌, map, sym, ap, ◌∙◌}
use Rattle.expr_tree.specs.LentChildren.{program_children}
use Rattle.expr_tree.specs.TermOf.{term_of}
use Rattle.expr_tree.proofs.NodeChildren.{children-program}
use Rattle.expr_syntax.proofs.Walking.{then_parts}
use Rattle.expr_syntax.proofs.places.order.wait_for_program.Goals as goal

pub returns : goal.returns
returns c =
    let p = c.args.program.now in
    then_parts c.wait_for.result c.args.place _ _ _ (map (λ l. term_of l.1) c.deref.result.now) (term_of p.expr ∷ []) (program_children p)
    (children-program p ∙ ap (λ ls. map (λ l. term_of l.1) ls ++ term_of p.expr ∷ []) (sym c.deref.ensures.value))
    c.in_ok-wait_for_values.ensures c.wait_for.ensures
