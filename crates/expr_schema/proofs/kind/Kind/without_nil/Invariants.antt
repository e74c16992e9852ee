use Rattle.std.proofs.Common.{◌≢◌, ◌↔◌}
use Rattle.expr_schema.specs.Kinds.{HasKind, Fits}
use Rattle.expr_schema.specs.KindView.{kind_view}
use Rattle.expr_value.specs.declared.value.Value.{Value, Nil}
use Rattle.expr_schema.proofs.kind.Kind.without_nil.Given as goal

abbrev pub invariant-loop-kind : goal.invariant-loop-kind
invariant-loop-kind l = ((v : Value) → v ≢ Nil → (HasKind (kind_view l.self) v ↔ HasKind (kind_view l.kind) v)) × Fits (kind_view l.kind) (kind_view l.self)
