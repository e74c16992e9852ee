use Rattle.std.proofs.Common.{◌≤◌, take, flat_map}
use Rattle.std.specs.Fmt.{HasWritten, IsPlainFormatter}
use Rattle.std.specs.Str.{IsCharBoundary}
use Rattle.expr_error.specs.Quoted.{escaped_byte}
use Rattle.expr_error.proofs.Escapes.{IsRun}
use Rattle.expr_error.proofs.quoted.show_escaped.Given as goal

abbrev pub invariant-loop-i : goal.invariant-loop-i
invariant-loop-i g l =
    (l.start ≤ l.i) × IsCharBoundary l.text l.start × IsRun l.text l.start l.i
    × (IsPlainFormatter l.fn.f → HasWritten g.W.Write.write_str_gives l.fn.f (flat_map escaped_byte (take l.start l.text)) l.f)
