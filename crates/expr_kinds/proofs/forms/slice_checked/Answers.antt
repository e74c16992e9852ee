use Rattle.std.proofs.Common.{sym, ap}
use Rattle.expr_tree.specs.Term.{postfix, slice}
use Rattle.expr_schema.specs.KindView.{kind_view}
use Rattle.expr_schema.specs.SchemaView.{effect_of}
use Rattle.expr_kinds.proofs.Judged.{fits-same, within-fits}
use Rattle.expr_kinds.proofs.Tabled.{told-slice}
use Rattle.expr_kinds.specs.Typed.{Typed}
use Rattle.expr_kinds.proofs.forms.slice_checked.Goals as goal

pub returns-then-not-keeps_kind-clause-ok : goal.returns-then-not-keeps_kind-clause-ok
returns-then-not-keeps_kind-clause-ok c = λ s t a b ho ha hb. c.unknown.ensures.tree s (postfix (slice a b) t)

pub returns-in_ok-kind-in-Some-clause-ok : goal.returns-in_ok-kind-in-Some-clause-ok
returns-in_ok-kind-in-Some-clause-ok c = λ s t a b ho ha hb e covers.
    let operand = c.args.operand.now in
    let told = told-slice operand c.args.start.now c.args.stop.now (effect_of c.in-Some.bounds) (effect_of c.joined_effect-effect.result) (c.keeps_kind.ensures c.if-not-keeps_kind.false) c.joined_effect-effect.ensures.first c.joined_effect-effect.ensures.second c.in-Some.ensures.left c.in-Some.ensures.right s t a b ho ha hb e covers in
    within-fits (λ k. Typed e s (postfix (slice a b) t) k) (kind_view operand.kind) (kind_view c.in_ok-kind-in-Some.kind) told (fits-same (kind_view operand.kind) (kind_view c.in_ok-kind-in-Some.kind) (ap kind_view (sym c.in_ok-kind-in-Some.ensures.ok)))

pub returns-in-None-clause-ok : goal.returns-in-None-clause-ok
returns-in-None-clause-ok c = λ s t a b ho ha hb. c.unknown-in-None.ensures.tree s (postfix (slice a b) t)
