use Rattle.std.proofs.Common.{◌++◌, [], ◌∷◌, map, sym, ap, ◌∙◌, append_assoc}
use Rattle.expr_tree.specs.LentChildren.{lent_terms}
use Rattle.expr_tree.specs.TermOf.{term_of}
use Rattle.expr_tree.proofs.NodeChildren.{children-program}
use Rattle.expr_tree.proofs.Waiting.{lent-push}
use Rattle.expr_tree.proofs.names.wait_for_program.Goals as goal

pub returns : goal.returns
returns c =
    let p = c.args.program.now in
    let old = lent_terms c.args.waiting.now.items in
    ap lent_terms c.in_ok-push.ensures.items ∙ lent-push c.wait_for_values.new.waiting.items _
    ∙ ap (λ l. l ++ term_of p.expr ∷ []) (c.in_ok-wait_for_values.ensures ∙ ap (λ ls. old ++ map (λ l. term_of l.1) ls) c.deref.ensures.value)
    ∙ append_assoc old (map (λ l. term_of l.1) p.lines.items) (term_of p.expr ∷ []) ∙ ap (λ ts. old ++ ts) (sym (children-program p))
