use Rattle.std.proofs.Common.{◌++◌, [], ◌∷◌, map, take, sym, ap, ◌∙◌, append_assoc}
use Rattle.std.proofs.lemmas.List.{take_more, map-append}
use Rattle.expr_tree.specs.LentChildren.{lent_terms}
use Rattle.expr_tree.specs.TermOf.{term_of}
use Rattle.expr_tree.proofs.Waiting.{lent-push}
use Rattle.expr_tree.proofs.names.wait_for_values.Goals as goal

pub loop-name-preserved : goal.loop-name-preserved
loop-name-preserved c =
    let ls = c.args.named.now in
    let i = c.loop-name._name-index in
    let l = c.loop-name-item.result in
    let old = lent_terms c.args.waiting.now.items in
    ap lent_terms c.in_ok-push.ensures.items ∙ lent-push c.loop-name.waiting.items _ ∙ ap (λ ts. ts ++ term_of l.1 ∷ []) c.loop-name.invariant
    ∙ append_assoc old (map (λ n. term_of n.1) (take i ls)) (term_of l.1 ∷ [])
    ∙ ap (λ ts. old ++ ts) (sym (ap (map (λ n. term_of n.1)) (take_more ls i l c.loop-name-test.true ∙ ap (λ n. take i ls ++ n ∷ []) (sym c.loop-name-item.is)) ∙ map-append (λ n. term_of n.1) (take i ls) (l ∷ [])))
