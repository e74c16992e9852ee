use Rattle.std.proofs.Common.{string_bytes}
use Rattle.expr_text.specs.Parts.{text_of_part, part_stands, pending_steps}
use Rattle.expr_text.proofs.Written.{Remains}
use Rattle.expr_text.proofs.write.write_all.Given as goal

abbrev pub invariant-loop-part : goal.invariant-loop-part
invariant-loop-part l = Remains (string_bytes l.out) l.pending.items (text_of_part l.fn.part) (part_stands l.fn.part)

abbrev pub decreases-loop-part : goal.decreases-loop-part
decreases-loop-part l = pending_steps l.pending.items
