use Rattle.expr_stack.proofs.Puts.{stored_operand, stored_own}
use Rattle.expr_stack.proofs.memory.Memory.store.Goals as goal

pub returns-in-Operand-clause-helds : goal.returns-in-Operand-clause-helds
returns-in-Operand-clause-helds g c =
    rw c.in-Operand.is (stored_operand _ _ _ _ _ _ c.cut_slots.ensures.kept c.cut_slots.ensures.slots c.put.ensures.kept c.put.ensures.slots)

pub returns-in-Own-clause-helds : goal.returns-in-Own-clause-helds
returns-in-Own-clause-helds g c =
    rw c.in-Own.is (stored_own _ _ _ _ _ _ c.cut_slots.ensures.kept c.cut_slots.ensures.slots c.put_kept.ensures.puts)
