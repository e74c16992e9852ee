use Rattle.std.proofs.Common.{take}
use Rattle.expr_schema.specs.Kinds.{Each, HasKind}
use Rattle.expr_schema.specs.KindView.{fields_view, kind_view}
use Rattle.expr_schema.specs.Scopes.{AllStand}
use Rattle.expr_schema.proofs.samples.+samples.Given as goal

abbrev pub invariant-kind_of_values-loop-value : goal.invariant-kind_of_values-loop-value
invariant-kind_of_values-loop-value l = Each (λ v. HasKind (kind_view l.kind) v) (take l.value-index l.values)

abbrev pub invariant-fields_of_map-loop-i : goal.invariant-fields_of_map-loop-i
invariant-fields_of_map-loop-i l = AllStand (fields_view l.fields) (take l.i l.map)
