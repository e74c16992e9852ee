use Rattle.std.proofs.Common.{map, drop}
use Rattle.expr_schema.specs.Kinds.{never}
use Rattle.expr_schema.specs.KindView.{kind_view}
use Rattle.expr_kinds.specs.Typed.{AllFit}
use Rattle.expr_kinds.proofs.calls.all_fit.Given as goal

-- if the others fit, all do
abbrev pub invariant-loop-i : goal.invariant-loop-i
invariant-loop-i l = AllFit (map kind_view (drop l.i l.kinds)) (map kind_view (drop l.i l.wanted)) never → AllFit (map kind_view l.kinds) (map kind_view l.wanted) never
