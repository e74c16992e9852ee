use Rattle.std.proofs.Common.{take}
use Rattle.expr_schema.specs.Kinds.{Each}
use Rattle.expr_schema.specs.declared.kind.Fields.{out-Fields}
use Rattle.expr_schema.proofs.Standing.{Given}
use Rattle.expr_schema.proofs.admits.required_stand.Given as goal

abbrev pub invariant-loop-i : goal.invariant-loop-i
invariant-loop-i l = Each (Given l.fields l.map) (take l.i (out-Fields l.fields).named)
