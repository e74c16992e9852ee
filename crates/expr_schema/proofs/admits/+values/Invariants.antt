use Rattle.std.proofs.Common.{take, Some}
use Rattle.expr_schema.specs.Kinds.{Each, HasKind, StandsAt}
use Rattle.expr_schema.specs.KindView.{fields_view, kind_view}
use Rattle.expr_schema.proofs.admits.+values.Given as goal

abbrev pub invariant-are_of-loop-value : goal.invariant-are_of-loop-value
invariant-are_of-loop-value l = Each (λ v. HasKind (kind_view l.kind) v) (take l.value-index l.values)

abbrev pub invariant-names_stand-loop-i : goal.invariant-names_stand-loop-i
invariant-names_stand-loop-i l = Each (λ e. StandsAt (fields_view l.fields) e.0 (Some e.1)) (take l.i l.map)
