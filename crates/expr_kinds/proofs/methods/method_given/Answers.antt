use Rattle.std.proofs.Common.{[], map, refl, subst}
use Rattle.expr_tree.specs.Term.{method, postfix}
use Rattle.expr_schema.specs.Kinds.{Fits, never}
use Rattle.expr_schema.specs.KindView.{kind_view}
use Rattle.expr_schema.specs.SchemaView.{effect_of}
use Rattle.expr_schema.specs.declared.kind.Kind.TheVariants as memory
use Rattle.expr_schema.proofs.Shapes.{kind_view-Never}
use Rattle.expr_kinds.specs.BuiltinRows.{method_view, shape_kind, taken_kinds}
use Rattle.expr_kinds.specs.Checks.{cause_view}
use Rattle.expr_kinds.specs.Typed.{AllFit}
use Rattle.expr_kinds.proofs.Judged.{covers-through}
use Rattle.expr_kinds.proofs.Tabled.{told-method}
use Rattle.expr_kinds.proofs.Told.{covers-cause}
use Rattle.expr_kinds.proofs.methods.method_given.Goals as goal

pub returns-then-not-branch-clause-ok : goal.returns-then-not-branch-clause-ok
returns-then-not-branch-clause-ok c = λ key s t ts has ho each. c.unknown.ensures.tree s (postfix (method key ts) t)

pub returns-clause-ok : goal.returns-clause-ok
returns-clause-ok c = λ key s t ts has ho each.
    let operand = c.args.operand.now in
    let a = c.args.arguments.now in
    let row = c.args.row in
    let k = kind_view c.in_ok-kind.kind in
    let f = effect_of c.joined_effect-effect.result in
    let parts = effect_of c.joined_effect-parts.result in
    let all = subst (λ ks. AllFit (map kind_view ks) (taken_kinds (kind_view memory.Never) row.takes) never) c.as_slice-kinds.ensures (c.in_ok-arguments_fit.ensures.ok c.if-not-branch.false) in
    told-method operand a f key (method_view row) has (subst (λ x. AllFit (map kind_view a.kinds) (taken_kinds x row.takes) never) kind_view-Never all)
    (covers-through f parts (effect_of operand.effect) c.joined_effect-effect.ensures.first c.joined_effect-parts.ensures.first)
    (covers-through f parts (effect_of a.effect) c.joined_effect-effect.ensures.first c.joined_effect-parts.ensures.second)
    (covers-cause f (effect_of c.cause_effect-own.result) (cause_view row.cause) [] [] c.cause_effect-own.ensures refl c.joined_effect-effect.ensures.second)
    k (subst (λ x. Fits (shape_kind x row.gives) k) kind_view-Never (λ v h. (c.in_ok-kind.ensures.ok v).0 h)) s t ts ho each
