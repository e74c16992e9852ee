use Rattle.std.proofs.Common.{map as each, take, codes}
use Rattle.std.specs.Fmt.{HasWritten, IsPlainFormatter}
use Rattle.expr_value.specs.Values.{joined_text}
use Rattle.expr_schema.specs.declared.kind.Fields.{out-Fields}
use Rattle.expr_schema.proofs.Shown.{shown_field}
use Rattle.expr_schema.proofs.display.+show.Given as goal

abbrev pub invariant-show_fields-loop-i : goal.invariant-show_fields-loop-i
invariant-show_fields-loop-i g l =
    IsPlainFormatter l.fn.f → HasWritten g.W.Write.write_str_gives l.fn.f (joined_text (codes ", ") (each shown_field (take l.i (out-Fields l.fields).named))) l.f
