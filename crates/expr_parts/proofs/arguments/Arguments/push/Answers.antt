use Rattle.std.proofs.Common.{[], ◌∷◌, map, sym, ap, ◌∙◌, arith}
use Rattle.std.proofs.lemmas.List.{map-append, length-map}
use Rattle.std.proofs.lemmas.List.Sums.{count_by-le-length}
use Rattle.std.proofs.lemmas.List.Elements.{All-push, All-same}
use Rattle.expr_tree.specs.KeptPatterns.{operations}
use Rattle.expr_tree.specs.TermOf.{term_of}
use Rattle.expr_tree.specs.declared.node.Node.{Node}
use Rattle.expr_parts.specs.Kept.{KeepPatterns}
use Rattle.expr_parts.specs.Parts.{WithHeight}
use Rattle.expr_parts.specs.Promotion.{has_free_hash}
use Rattle.expr_parts.specs.HashUses.{hash_uses_of}
use Rattle.expr_parts.specs.declared.promotion.HashUses.{HashUses}
use Rattle.expr_parts.proofs.arguments.Arguments.push.Goals as goal

-- that the patterns of a node are kept
abbrev keeps : Node → Type 0
keeps n = KeepPatterns (operations n)

pub add-requires : goal.add-requires
add-requires c =
    let ns = c.self.inside.nodes in
    omega (arith, ap (λ (m : HashUses). m.free) c.self.invariant.0, count_by-le-length has_free_hash (map term_of ns.items), length-map ns.items term_of, ns.ok.0, ns.ok.1, ns.small)

pub invariant_of-self-2 : goal.invariant_of-self-2
invariant_of-self-2 c =
    let ns = c.self.inside.nodes in
    let node = c.into_node.result in
    let count = c.len-count.ensures ∙ ns.ok.0 ∙ sym (length-map ns.items term_of) in
    let is_free = c.part.invariant.0 ∙ ap has_free_hash (ap (λ (m : WithHeight). m.term) c.part.view_is ∙ sym c.into_node.ensures.term) in (
      c.add.ensures (map term_of ns.items) (term_of node) c.self.invariant.0 count is_free
          ∙ ap hash_uses_of (sym (ap (map term_of) c.in_ok-push.ensures.items ∙ map-append term_of ns.items (node ∷ []))),
      All-same keeps _ _ c.in_ok-push.ensures.items (All-push keeps ns.items node c.self.invariant.1 c.into_node.ensures.patterns),
      c.self.invariant.2,
    )
