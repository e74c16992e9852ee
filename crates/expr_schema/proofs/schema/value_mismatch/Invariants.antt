use Rattle.std.proofs.Common.{map as each}
use Rattle.expr_schema.specs.Kinds.{Each}
use Rattle.expr_schema.specs.KindView.{fields_view}
use Rattle.expr_schema.proofs.Contexts.{Checked, seen}
use Rattle.expr_schema.proofs.schema.value_mismatch.Given as goal

abbrev pub invariant-loop-name : goal.invariant-loop-name
invariant-loop-name l = Each (Checked (fields_view l.fields) l.context) (each seen l.yielded)
