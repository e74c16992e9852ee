use Rattle.std.proofs.Common.{sym, ap, ◌∙◌}
use Rattle.expr_schema.specs.Kinds.{array}
use Rattle.expr_schema.specs.KindView.{kind_view}
use Rattle.expr_kinds.specs.BuiltinRows.{shape_kind}
use Rattle.expr_kinds.proofs.Judged.{fits-same, if-some}
use Rattle.expr_kinds.proofs.shapes.item_of.Goals as goal

pub returns-in-ItemArray : goal.returns-in-ItemArray
returns-in-ItemArray c =
    let a = kind_view c.args.kind.now in
    if-some c.array_item.result _ _ (λ k q. fits-same a (shape_kind (kind_view k.now) c.args.shape) (q ∙ ap (shape_kind (kind_view k.now)) (sym c.in-ItemArray.is))) c.array_item.ensures

pub returns-in-Some : goal.returns-in-Some
returns-in-Some c =
    let a = kind_view c.args.kind.now in
    if-some c.array_item-in-Some.result _ _ (λ k q. fits-same a (shape_kind (kind_view k.now) c.args.shape) (c.in-Some.ensures ∙ ap array q ∙ ap (shape_kind (kind_view k.now)) (sym c.in-ItemArrays.is))) c.array_item-in-Some.ensures

pub returns-in-ItemMap : goal.returns-in-ItemMap
returns-in-ItemMap c =
    let a = kind_view c.args.kind.now in
    if-some c.keyed_item.result _ _ (λ k q. fits-same a (shape_kind (kind_view k.now) c.args.shape) (q ∙ ap (shape_kind (kind_view k.now)) (sym c.in-ItemMap.is))) c.keyed_item.ensures
