use Rattle.std.proofs.Common.{take}
use Rattle.expr_schema.specs.Kinds.{Each}
use Rattle.expr_schema.specs.declared.kind.Fields.{out-Fields}
use Rattle.expr_schema.proofs.Contexts.{Supplied}
use Rattle.expr_schema.proofs.schema.missing_mismatch.Given as goal

abbrev pub invariant-loop-i : goal.invariant-loop-i
invariant-loop-i l = Each (Supplied l.fields l.context) (take l.i (out-Fields l.fields).named)
