use Rattle.std.proofs.Common.{take}
use Rattle.std.specs.Fmt.{HasWritten, IsPlainFormatter}
use Rattle.expr_layout.specs.Layouts.{printed_text}
use Rattle.expr_layout.proofs.print.show.Given as goal

abbrev pub invariant-loop-i : goal.invariant-loop-i
invariant-loop-i g l = IsPlainFormatter l.fn.f → HasWritten g.W.Write.write_str_gives l.fn.f (printed_text l.moment (take l.i l.tokens)) l.f
