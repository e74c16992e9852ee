use Rattle.std.proofs.Common.{◌≡◌, true, false, map, is_none, sym, ◌∙◌}
use Rattle.std.specs.List.{list_any}
use Rattle.expr_tree.specs.TermOf.{term_of, line_term}
use Rattle.expr_parts.specs.Maps.{has_expression, value_of}
use Rattle.expr_text.proofs.Expanding.{map_expands}
use Rattle.expr_text.proofs.Standing.{any_expression, map_of_literals}
use Rattle.expr_text.proofs.node_parts.put_map.Goals as goal

pub returns : goal.returns
returns c =
    let some : list_any (λ p. is_none (value_of (term_of p.1))) c.args.pairs.now ≡ true = cc in
    map_expands c.args.place (map line_term c.args.pairs.now) (sym (any_expression c.args.pairs.now) ∙ some) c.in_ok-put_three.ensures

pub returns-then-not-has_expression : goal.returns-then-not-has_expression
returns-then-not-has_expression c =
    let none : list_any (λ p. is_none (value_of (term_of p.1))) c.args.pairs.now ≡ false = cc in
    map_of_literals c.args.place.is_hashless (map line_term c.args.pairs.now) (sym (any_expression c.args.pairs.now) ∙ none)
