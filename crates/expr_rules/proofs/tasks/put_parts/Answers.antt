use Rattle.std.proofs.Common.{◌≡◌, map, refl, sym, ap, ◌∙◌, subst, arith}
use Rattle.std.proofs.lemmas.Result.{on_ok_weaker}
use Rattle.expr_text.specs.Steps.{term_steps}
use Rattle.expr_tree.specs.Term.{mapping, term_pairs}
use Rattle.expr_tree.specs.TermOf.{term_of, line_term}
use Rattle.expr_tree.proofs.Shapes.{term_of-Map}
use Rattle.expr_rules.specs.Tasks.{PutsFewer, parts_asked}
use Rattle.expr_rules.proofs.Splitting.{leaf_put}
use Rattle.expr_rules.proofs.Tasking.{fewer_put}
use Rattle.expr_rules.proofs.tasks.put_parts.Goals as goal

pub returns-in-Map : goal.returns-in-Map
returns-in-Map c =
    let whole : term_of c.args.node.now ≡ mapping (term_pairs (map line_term c.deref-in-Map.result.now)) = ap term_of c.in-Map.is ∙ term_of-Map c.in-Map.pairs ∙ ap (λ ps. mapping (term_pairs (map line_term ps))) (sym c.deref-in-Map.ensures.value) in
    on_ok_weaker c.put_pairs.result (λ h. subst (λ t. PutsFewer c.args.pending.now.items c.put_pairs.new.pending.items (λ a. parts_asked a t) (term_steps t)) (sym whole) (fewer_put h (λ a. refl) (omega arith))) c.put_pairs.ensures

pub returns-in-Ident : goal.returns-in-Ident
returns-in-Ident c = leaf_put c.args.pending.now.items c.args.node.now c.in-Ident.is

pub returns-in-Ident-2 : goal.returns-in-Ident-2
returns-in-Ident-2 c = leaf_put c.args.pending.now.items c.args.node.now c.in-Ident.is
