use Rattle.std.proofs.Common.{◌≡◌, ◌+◌, ◌∷◌, [], ap, ◌∙◌, arith, length, length-append, refl, sym}
use Rattle.expr_stack.proofs.Off.{off_next}
use Rattle.expr_stack.proofs.stack.Stack.take_values.Goals as goal

pub loop-self-preserved : goal.loop-self-preserved
loop-self-preserved g c =
    let one : length c.push_reserved-in-None.new.self.items ≡ length c.loop-self.values.items + 1 =
    ap length c.push_reserved-in-None.ensures.items ∙ length-append c.loop-self.values.items (c.in_ok-pop_other-in-None.field-0 ∷ []) in
    let rest = sym c.in-None.ensures ∙ c.in_ok-pop_other-in-None.ensures.rest in
    record {
      off = rw c.push_reserved-in-None.ensures.items (off_next _ _ _ _ _ _ _ c.loop-self.invariant.off rest c.in_ok-pop_other-in-None.ensures.value);
      count = omega (arith, c.loop-self.values.ok.0);
      room = omega arith;
    }

pub loop-self-preserved-in-Some : goal.loop-self-preserved-in-Some
loop-self-preserved-in-Some g c =
    let one : length c.push_reserved.new.self.items ≡ length c.loop-self.values.items + 1 =
    ap length c.push_reserved.ensures.items ∙ length-append c.loop-self.values.items (c.in-Some.value ∷ []) in
    record {
      off = rw c.push_reserved.ensures.items (off_next _ _ _ _ _ _ _ c.loop-self.invariant.off c.in-Some.ensures refl);
      count = omega (arith, c.loop-self.values.ok.0);
      room = omega arith;
    }
