use Rattle.std.proofs.Common.{map, drop}
use Rattle.expr_schema.specs.KindView.{kind_view}
use Rattle.expr_kinds.specs.BuiltinRows.{shape_kind, taken_kinds}
use Rattle.expr_kinds.specs.Typed.{AllFit}
use Rattle.expr_kinds.proofs.shapes.arguments_fit.Given as goal

-- if the others fit what is left, all fit
abbrev pub invariant-loop-kind : goal.invariant-loop-kind
invariant-loop-kind l =
    AllFit (map kind_view (drop l.kind-index l.kinds)) (taken_kinds (kind_view l.item) l.left) (shape_kind (kind_view l.item) l.more)
    → AllFit (map kind_view l.kinds) (taken_kinds (kind_view l.item) l.fn.takes) (shape_kind (kind_view l.item) l.more)
