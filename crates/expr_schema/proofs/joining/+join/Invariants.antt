use Rattle.std.proofs.Common.{ℕ, List, take}
use Rattle.expr_schema.specs.Joins.{HasNames, HoldsBoth}
use Rattle.expr_schema.specs.Kinds.{Each}
use Rattle.expr_schema.specs.declared.kind.Fields.{out-Fields}
use Rattle.expr_schema.proofs.Joined.{Has}
use Rattle.expr_schema.proofs.joining.+join.Given as goal

abbrev pub invariant-join_named-loop-i : goal.invariant-join_named-loop-i
invariant-join_named-loop-i l = Each (HoldsBoth l.a l.b) l.named × Each (λ e. Has l.named e.0) (take l.i (out-Fields l.a).named)

abbrev pub invariant-join_unnamed-loop-i : goal.invariant-join_unnamed-loop-i
invariant-join_unnamed-loop-i l =
    (Each (HoldsBoth l.a l.b) l.initial.named → HasNames l.a l.initial.named → Each (HoldsBoth l.a l.b) l.named)
    × ((n : List ℕ) → Has l.initial.named n → Has l.named n) × Each (λ e. Has l.named e.0) (take l.i (out-Fields l.b).named)
