use Rattle.std.proofs.Common.{take}
use Rattle.expr_value.specs.Names.{find}
use Rattle.expr_schema.specs.KindView.{fields_view}
use Rattle.expr_schema.specs.Scopes.{AllStand}
use Rattle.expr_schema.proofs.Lists.{Each-more, Each-weaker}
use Rattle.expr_schema.proofs.samples.with_records.Goals as goal

pub loop-record-preserved : goal.loop-record-preserved
loop-record-preserved c =
    let rs = c.args.records.now in
    let i = c.loop-record.record-index in
    let old = fields_view c.loop-record.fields in
    let new = fields_view c.in_ok-fields.fields in (
      λ n x h. c.in_ok-fields.ensures.kept n x (c.loop-record.invariant.0 n x h),
      Each-more (AllStand new) rs i c.record-item.result c.loop-record-test.true c.record-item.is
          (Each-weaker (AllStand old) (AllStand new) (λ r h n. c.in_ok-fields.ensures.kept n (find n r) (h n)) (take i rs) c.loop-record.invariant.1) c.in_ok-fields.ensures.added,
    )
