use Rattle.std.proofs.Common.{◌≡◌, sym, ap, ◌∙◌, inl, inr}
use Rattle.expr_schema.specs.Kinds.{array, bytes, integer, keyed}
use Rattle.expr_schema.specs.KindView.{kind_view}
use Rattle.expr_schema.specs.declared.kind.Kind.TheVariants as memory
use Rattle.expr_schema.proofs.Shapes.{kind_view-Array, kind_view-Bytes, kind_view-Integer, kind_view-KeyedMap}
use Rattle.expr_kinds.proofs.TableKinds.{with-nil}
use Rattle.expr_kinds.proofs.Judged.{fits-same}
use Rattle.expr_kinds.proofs.members.part_kind.Goals as goal

pub returns-in_ok-part-in-Array-clause-ok : goal.returns-in_ok-part-in-Array-clause-ok
returns-in_ok-part-in-Array-clause-ok c =
    let item = kind_view c.in_ok-kind-in-Array.kind in
    let same : kind_view c.args.whole.now ≡ array item = ap kind_view c.in-Array.is ∙ kind_view-Array c.in-Array.item ∙ ap (λ k. array (kind_view k)) (sym c.get.ensures ∙ sym c.in_ok-kind-in-Array.ensures.ok) in
    inl (item, fits-same (kind_view c.args.whole.now) (array item) same, c.fits_base.ensures c.if-not-fits_base.false, with-nil item (kind_view c.in_ok-part-in-Array.part) c.in_ok-part-in-Array.ensures.ok item (λ v h. h))

pub returns-in_ok-part-in-Bytes-clause-ok : goal.returns-in_ok-part-in-Bytes-clause-ok
returns-in_ok-part-in-Bytes-clause-ok c =
    inr (inl (
      fits-same (kind_view c.args.whole.now) bytes (ap kind_view c.in-Bytes.is ∙ kind_view-Bytes),
      c.fits_base-in-Bytes.ensures c.if-not-fits_base-2.false,
      with-nil (kind_view memory.Integer) (kind_view c.in_ok-part-in-Bytes.part) c.in_ok-part-in-Bytes.ensures.ok integer (fits-same integer (kind_view memory.Integer) (sym kind_view-Integer)),
    ))

pub returns-in_ok-part-in-KeyedMap-clause-ok : goal.returns-in_ok-part-in-KeyedMap-clause-ok
returns-in_ok-part-in-KeyedMap-clause-ok c =
    let item = kind_view c.in_ok-kind-in-KeyedMap.kind in
    let same : kind_view c.args.whole.now ≡ keyed item = ap kind_view c.in-KeyedMap.is ∙ kind_view-KeyedMap c.in-KeyedMap.item ∙ ap (λ k. keyed (kind_view k)) (sym c.get-in-KeyedMap.ensures ∙ sym c.in_ok-kind-in-KeyedMap.ensures.ok) in
    inr (inr (item, fits-same (kind_view c.args.whole.now) (keyed item) same, with-nil item (kind_view c.in_ok-part-in-KeyedMap.part) c.in_ok-part-in-KeyedMap.ensures.ok item (λ v h. h)))
