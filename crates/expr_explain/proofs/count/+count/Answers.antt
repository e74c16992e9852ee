use Rattle.std.proofs.Common.{◌≡◌, ◌+◌, [], ◌∷◌, ◌++◌, take, arith, sym, ap, ◌∙◌}
use Rattle.std.proofs.lemmas.List.{take_more}
use Rattle.expr_tree.proofs.Weights.{items_weight, items-push, named_weight, lines-push, program-parts, weight-Map}
use Rattle.expr_tree.specs.TermOf.{program_term, term_of}
use Rattle.expr_tree.specs.Weight.{block_weight, weight}
use Rattle.expr_tree.specs.declared.node.Node.{Node}
use Rattle.expr_explain.proofs.Counting.{counted_as, counted_inside}
use Rattle.expr_explain.proofs.count.+count.Goals as goal

pub count_all-loop-node-preserved : goal.count_all-loop-node-preserved
count_all-loop-node-preserved t c =
    let nodes = c.args.nodes.now in
    let i = c.loop-node.node-index in
    let n = c.node-item.result in
    let more : take (i + 1) nodes ≡ take i nodes ++ n ∷ [] = take_more nodes i n c.loop-node-test.true ∙ ap (λ x. take i nodes ++ x ∷ []) (sym c.node-item.is) in
    omega (arith, ap items_weight more ∙ items-push (take i nodes) n, c.in_ok-count.ensures.ok, c.loop-node.invariant)

pub count_inside-returns-in-Map-clause-ok : goal.count_inside-returns-in-Map-clause-ok
count_inside-returns-in-Map-clause-ok t c =
    let ps = c.in-Map.pairs in
    let whole = ap (λ (n : Node). weight (term_of n)) c.in-Map.is ∙ weight-Map ps in
    let same = ap named_weight c.deref-in-Map.ensures.value in
    counted_inside c.count_named.result (c.args.before + named_weight c.deref-in-Map.result.now) (c.args.before + weight (term_of c.args.node.now)) (omega (arith, whole, same)) c.count_named.ensures.ok

pub count_program_nodes-returns-clause-ok : goal.count_program_nodes-returns-clause-ok
count_program_nodes-returns-clause-ok t c =
    let p = c.args.program.now in
    let k = c.in_ok-count_named.field-0 in
    counted_as c.count_nodes.result (k + weight (term_of p.expr)) (c.args.before + block_weight (program_term p)) (
    omega (arith, program-parts p, ap named_weight c.deref.ensures.value, c.in_ok-count_named.ensures.ok)
    ) c.count_nodes.ensures.ok

pub count_named-loop-name-preserved : goal.count_named-loop-name-preserved
count_named-loop-name-preserved t c =
    let named = c.args.named.now in
    let i = c.loop-name._name-index in
    let l = c.loop-name-item.result in
    let more : take (i + 1) named ≡ take i named ++ l ∷ [] = take_more named i l c.loop-name-test.true ∙ ap (λ x. take i named ++ x ∷ []) (sym c.loop-name-item.is) in
    omega (arith, ap named_weight more ∙ lines-push (take i named) l, c.in_ok-count.ensures.ok, c.loop-name.invariant)
