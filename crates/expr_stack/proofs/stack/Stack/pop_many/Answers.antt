use Rattle.std.proofs.Common.{◌≡◌, ◌+◌, ◌∷◌, [], ap, ◌∙◌, arith, length, length-append}
use Rattle.expr_stack.proofs.Off.{off_next}
use Rattle.expr_stack.proofs.stack.Stack.pop_many.Goals as goal

pub loop-values-preserved : goal.loop-values-preserved
loop-values-preserved g c =
    let one : length c.push_reserved.new.self.items ≡ length c.loop-values.values.items + 1 =
    ap length c.push_reserved.ensures.items ∙ length-append c.loop-values.values.items (c.pop.result ∷ []) in
    record {
      off = rw c.push_reserved.ensures.items (off_next _ _ _ _ _ _ _ c.loop-values.invariant.off c.pop.ensures.rest c.pop.ensures.value);
      count = omega (arith, c.loop-values.values.ok.0);
      room = omega arith;
    }
