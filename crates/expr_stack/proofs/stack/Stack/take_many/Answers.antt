use Rattle.std.proofs.Common.{◌≡◌, ◌+◌, ◌∷◌, [], ap, ◌∙◌, arith, length, length-append, reverse, suc, sym, take}
use Rattle.expr_stack.specs.Cells.{first_lent}
use Rattle.expr_stack.specs.Operands.{cell_taken}
use Rattle.expr_stack.proofs.Off.{deepest_next, off_given}
use Rattle.expr_stack.proofs.stack.Stack.take_many.Goals as goal

pub loop-lent-preserved : goal.loop-lent-preserved
loop-lent-preserved g c =
    let one : length c.push_reserved.new.self.items ≡ length c.loop-lent.values.items + 1 =
    ap length c.push_reserved.ensures.items ∙ length-append c.loop-lent.values.items (c.in_ok-to_cow_slow.field-0 ∷ []) in
    let more : suc (length c.loop-lent.values.items) ≡ length c.push_reserved.new.self.items = omega (arith, one) in
    record {
      off = rw c.push_reserved.ensures.items (off_given _ _ _ _ _ _ _ c.loop-lent.invariant.off c.take_top-top.ensures c.in_ok-to_cow_slow.ensures.answer);
      lent = c.lent_items-lent.ensures ∙ (sym (deepest_next (length c.loop-lent.values.items) c.args.self.now (cell_taken c.take_top-top.result) c.take_top-top.new.self (sym c.loop-lent.invariant.off.rest ∙ c.take_top-top.ensures)) ∙ ap (λ n. first_lent (reverse (take n c.args.self.now))) more);
      count = omega (arith, c.loop-lent.values.ok.0);
      room = omega arith;
    }
