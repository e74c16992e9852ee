use Rattle.std.proofs.Common.{arith}
use Rattle.expr_lowering.proofs.Needing.{blocks_next, blocks_all}
use Rattle.expr_lowering.proofs.safety.are_safe.Goals as goal

pub loop-left-preserved : goal.loop-left-preserved
loop-left-preserved g c = record {
  within = omega (arith, c.loop-left.invariant.within);
  starts = blocks_next c.args.later.now.items c.loop-left.left c.index.result.now _ c.loop-left.starts.items c.deref.result.now _ c.loop-left-test.true c.loop-left.invariant.within c.index.ensures c.in_ok-push.ensures.items c.deref.ensures.value c.in_ok-need_of_block.ensures c.loop-left.invariant.starts;
}

pub returns : goal.returns
returns g c =
    let all = blocks_all c.args.first.now c.args.later.now c.loop-left.left _ c.loop-left.starts.items c.deref-2.result.now c.loop-left-test.false c.deref-2.ensures.value c.in_ok-need_of_block-2.ensures c.loop-left.invariant.starts in
    ((λ b. all.0 (c.is_met.ensures.0 b)), (λ s. c.is_met.ensures.1 (all.1 s)))
