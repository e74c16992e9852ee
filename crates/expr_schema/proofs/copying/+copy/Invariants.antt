use Rattle.std.proofs.Common.{◌≡◌, take}
use Rattle.expr_schema.specs.declared.kind.Fields.{out-Fields}
use Rattle.expr_schema.proofs.copying.+copy.Given as goal

abbrev pub invariant-copy_named-loop-i : goal.invariant-copy_named-loop-i
invariant-copy_named-loop-i l = l.named ≡ take l.i (out-Fields l.fields).named
