use Rattle.std.proofs.Common.{◌≡◌, ◌||◌, max, map, sym, ap, ◌∙◌}
use Rattle.expr_tree.specs.Term.{block_with}
use Rattle.expr_parts.specs.Promotion.{has_free_hash, block_has_free_hash, lines_have_free_hash}
use Rattle.expr_tree.specs.TermOf.{term_of, line_term, program_term}
use Rattle.expr_tree.proofs.KeptPatterns.{all-program}
use Rattle.expr_tree.proofs.Programs.{term_of-program}
use Rattle.expr_parts.specs.Kept.{IsKeptBeside}
use Rattle.expr_parts.specs.Parts.{WithHeight}
use Rattle.expr_parts.proofs.Kept.{keeps_program}
use Rattle.expr_parts.proofs.Parts.{block_free, same_block}
use Rattle.expr_parts.proofs.program.Lines.finish.Goals as goal
use Rattle.expr_parts.proofs.program.Lines.finish.Goals.{then-has_free_hash, else-has_free_hash}

pub invariant_of-result : goal.invariant_of-result
invariant_of-result c =
    let flag : c.if-has_free_hash.has_free_hash ≡ (c.self.inside.has_free_hash || c.last.inside.has_free_hash) =
    elim c.if-has_free_hash.branch [
      | then-has_free_hash w ↦ w.has_free_hash-is ∙ w.if-has_free_hash.true ∙ ap (λ b. b || c.last.inside.has_free_hash) (sym w.if-has_free_hash.true)
      | else-has_free_hash w ↦ w.has_free_hash-is ∙ ap (λ b. b || c.last.inside.has_free_hash) (sym w.if-has_free_hash.false)
    ] in
    let free : (c.self.inside.has_free_hash || c.last.inside.has_free_hash) ≡ (lines_have_free_hash (map line_term c.self.inside.lines.items) || has_free_hash (term_of c.last.inside.node.value)) =
    λ i. c.self.invariant.0 i || c.last.invariant.0 i in
    let same : term_of c.last.inside.node.value ≡ term_of c.into_node-expr.result = ap (λ (m : WithHeight). m.term) c.last.view_is ∙ sym c.into_node-expr.ensures.term in (
      flag ∙ free ∙ ap (λ t. lines_have_free_hash (map line_term c.self.inside.lines.items) || has_free_hash t) same
          ∙ sym (ap block_has_free_hash (ap program_term c.in_ok-new.ensures.ok ∙ term_of-program c.self.inside.lines c.into_node-expr.result) ∙ block_free (map line_term c.self.inside.lines.items) (term_of c.into_node-expr.result)),
      keeps_program c.in_ok-new.ensures.ok (all-program IsKeptBeside c.self.inside.lines c.into_node-expr.result c.self.invariant.1 c.into_node-expr.ensures.patterns),
    )

pub returns : goal.returns
returns c = same_block (ap program_term c.in_ok-new.ensures.ok ∙ term_of-program c.self.inside.lines c.into_node-expr.result ∙ (λ i. block_with (c.self.view_is i).lines (c.into_node-expr.ensures.term i)))
    (c.max-height.ensures ∙ (λ i. max (c.self.view_is i).height (c.height.ensures i)))
