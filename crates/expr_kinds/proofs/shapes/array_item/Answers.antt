use Rattle.std.proofs.Common.{sym, ap, ◌∙◌}
use Rattle.expr_schema.specs.Kinds.{array}
use Rattle.expr_schema.specs.KindView.{kind_view}
use Rattle.expr_schema.proofs.Shapes.{kind_view-Array}
use Rattle.expr_kinds.proofs.shapes.array_item.Goals as goal

pub returns-in-Array : goal.returns-in-Array
returns-in-Array c = ap kind_view c.in-Array.is ∙ kind_view-Array c.in-Array.item ∙ ap (λ k. array (kind_view k)) (sym c.get.ensures)
