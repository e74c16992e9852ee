use Rattle.std.proofs.Common.{map, ap, ◌∙◌}
use Rattle.expr_tree.specs.TermOf.{term_of, terms_of}
use Rattle.expr_parts.specs.Promotion.{any_free_hash}
use Rattle.expr_parts.specs.Parts.{ArgumentsWithHeight}
use Rattle.expr_parts.proofs.HashUses.{any_marked}
use Rattle.expr_parts.proofs.arguments.Arguments.has_free_hash.Goals as goal

pub returns : goal.returns
returns c =
    any_marked c.self.inside.marks (map term_of c.self.inside.nodes.items) c.self.invariant.0
    ∙ ap (λ (g : ArgumentsWithHeight). any_free_hash (terms_of g.terms)) c.self.view_is
