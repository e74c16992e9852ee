use Rattle.expr_schema.specs.KindView.{kind_view}
use Rattle.expr_schema.specs.SchemaView.{effect_of}
use Rattle.expr_kinds.proofs.TableKinds.{core-or-nil}
use Rattle.expr_kinds.proofs.Told.{told-coalesce}
use Rattle.expr_kinds.proofs.forms.coalesce_checked.Goals as goal

pub returns-clause-ok : goal.returns-clause-ok
returns-clause-ok c = λ s t u ht hu e covers.
    let operand = c.args.operand.now in
    let core = kind_view c.without_nil-core.result.now in
    told-coalesce operand c.args.other.now (effect_of c.joined_effect-effect.result) c.joined_effect-effect.ensures.first c.joined_effect-effect.ensures.second core (kind_view c.in_ok-kind.kind)
    (core-or-nil (kind_view operand.kind) core c.without_nil-core.ensures.values) c.in_ok-kind.ensures.left c.in_ok-kind.ensures.right s t u ht hu e covers
