use Rattle.std.proofs.Common.{◌∷◌, ap, ◌∙◌, reverse}
use Rattle.expr_stack.specs.Operands.{cell_of}
use Rattle.expr_stack.proofs.Entries.{Stand, stand_put, stand_skip}
use Rattle.expr_stack.proofs.stack.Stack.push_operand.Goals as goal
use Rattle.expr_stack.proofs.stack.Stack.push_operand.Goals.{then-is_some+in_ok-put_below, else-is_some}

pub invariant_of-self-2 : goal.invariant_of-self-2
invariant_of-self-2 g c =
    let s : Stand c.if-is_some.self-inside.top c.if-is_some.self-inside.below.items (reverse c.if-is_some.self-inside.own.items) c.args.self.now =
    elim c.if-is_some.branch [
      | then-is_some+in_ok-put_below w ↦ rw w.self-inside-is (stand_put c.self.inside.top c.self.inside.under c.self.inside.below.items _ (reverse c.self.inside.own.items) c.args.self.now w.in_ok-put_below.ensures.put c.self.invariant.0 c.self.invariant.1 c.self.view_is)
      | else-is_some w ↦ rw w.self-inside-is (stand_skip c.self.inside.top c.self.inside.under c.self.inside.below.items (reverse c.self.inside.own.items) c.args.self.now w.if-is_some.ensures c.self.invariant.0 c.self.invariant.1 c.self.view_is)
    ] in
    (c.from_operand-self-inside.ensures.filled _ s.0, c.from_operand-self-inside.ensures.fits _ _ s.1.0)

pub returns : goal.returns
returns g c =
    let s : Stand c.if-is_some.self-inside.top c.if-is_some.self-inside.below.items (reverse c.if-is_some.self-inside.own.items) c.args.self.now =
    elim c.if-is_some.branch [
      | then-is_some+in_ok-put_below w ↦ rw w.self-inside-is (stand_put c.self.inside.top c.self.inside.under c.self.inside.below.items _ (reverse c.self.inside.own.items) c.args.self.now w.in_ok-put_below.ensures.put c.self.invariant.0 c.self.invariant.1 c.self.view_is)
      | else-is_some w ↦ rw w.self-inside-is (stand_skip c.self.inside.top c.self.inside.under c.self.inside.below.items (reverse c.self.inside.own.items) c.args.self.now w.if-is_some.ensures c.self.invariant.0 c.self.invariant.1 c.self.view_is)
    ] in
    record { pushed = c.from_operand-self-inside.ensures.shown _ _ ∙ ap (λ cs. cell_of c.args.operand ∷ cs) s.1.1 }
