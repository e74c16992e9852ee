use Rattle.std.proofs.Common.{sym, ap, ◌∙◌}
use Rattle.expr_schema.specs.Kinds.{keyed}
use Rattle.expr_schema.specs.KindView.{kind_view}
use Rattle.expr_schema.proofs.Shapes.{kind_view-KeyedMap}
use Rattle.expr_kinds.proofs.shapes.keyed_item.Goals as goal

pub returns-in-KeyedMap : goal.returns-in-KeyedMap
returns-in-KeyedMap c = ap kind_view c.in-KeyedMap.is ∙ kind_view-KeyedMap c.in-KeyedMap.item ∙ ap (λ k. keyed (kind_view k)) (sym c.get.ensures)
