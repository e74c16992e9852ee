use Rattle.std.proofs.Common.{sym, subst, take}
use Rattle.std.proofs.lemmas.List.{take-map}
use Rattle.expr_stack.specs.Cells.{AreWithin}
use Rattle.expr_stack.proofs.Within.{within_cut, within_take}
use Rattle.expr_stack.proofs.memory.Memory.cut.Goals as goal

pub invariant_of-self : goal.invariant_of-self
invariant_of-self g c =
    let below = subst (λ m. AreWithin c.args.places (take c.args.slot m.slots)) (sym c.self.view_is) c.requires in
    rw (c.cut_list.ensures, c.truncate.ensures.items) (rw (← take-map) (within_cut _ _ _ below (within_take _ _ _ c.self.invariant)))

pub returns-clause-slots : goal.returns-clause-slots
returns-clause-slots g c = rw (c.truncate.ensures.items, ← c.self.view_is) (sym (take-map _ _ _))
