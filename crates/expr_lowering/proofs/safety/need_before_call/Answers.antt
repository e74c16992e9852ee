use Rattle.std.proofs.Common.{◌+◌, subst}
use Rattle.expr_lowering.specs.Needs.{Admits}
use Rattle.expr_lowering.proofs.safety.need_before_call.Goals as goal

pub returns : goal.returns
returns g c first stack slots small =
    let call = c.args.call.now in
    let entered = call.slot + c.bound_count.result in
    let admitted = subst (λ n. Admits c.args.starts.now call.block (call.slot + n)) c.bound_count.ensures ((c.need_at.ensures entered 0 entered).0 (c.is_met.ensures.0 c.if-not-is_met.false)) in
    let set = c.setting.ensures first stack slots in
    let put = c.replacing.ensures first stack call.slot small in
    ((λ m. let p = set.0 m in let q = put.0 p.2 in (q.0, p.0, p.1, admitted, q.1)), (λ w. set.1 (w.1, w.2, put.1 (w.0, w.4))))
