use Rattle.std.proofs.Common.{◌≡◌, IfOk, map, sym, ap, ◌∙◌, subst}
use Rattle.expr_tree.specs.TermOf.{term_of, line_term}
use Rattle.expr_tree.specs.Term.{mapping, term_pairs}
use Rattle.expr_tree.proofs.Shapes.{term_of-Map}
use Rattle.expr_text.specs.Parts.{NodeExpands}
use Rattle.expr_text.proofs.node_parts.put_bare.Goals as goal

pub returns-in-Map : goal.returns-in-Map
returns-in-Map c =
    let same : term_of c.args.node.now ≡ mapping (term_pairs (map line_term c.deref-in-Map.result.now)) = ap term_of c.in-Map.is ∙ term_of-Map c.in-Map.pairs ∙ ap (λ l. mapping (term_pairs (map line_term l))) (sym c.deref-in-Map.ensures.value) in
    subst (λ t. IfOk c.put_map.result (λ done. NodeExpands done c.args.pending.now.items c.put_map.new.pending.items t c.args.place)) (sym same) c.put_map.ensures
