use Rattle.std.proofs.Common.{◌∷◌, map, ap, ◌∙◌}
use Rattle.expr_schema.specs.KindView.{kind_view}
use Rattle.expr_kinds.specs.Checks.{literals_view}
use Rattle.expr_kinds.proofs.checked.with_first.Goals as goal

pub returns-clause-kinds : goal.returns-clause-kinds
returns-clause-kinds c =
    ap (map kind_view) (c.from_vec.ensures ∙ c.in_ok-insert.ensures.items ∙ ap (λ ks. c.in_ok-kind.kind ∷ ks) c.into_vec-kinds.ensures)
    ∙ ap (λ k. kind_view k ∷ map kind_view c.args.rest.kinds) c.in_ok-kind.ensures.ok

pub returns-clause-literals : goal.returns-clause-literals
returns-clause-literals c = ap literals_view (c.from_vec-2.ensures ∙ c.in_ok-insert-2.ensures.items ∙ ap (λ ls. c.args.literal ∷ ls) c.into_vec-literals.ensures)
