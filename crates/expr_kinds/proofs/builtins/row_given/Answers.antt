use Rattle.std.proofs.Common.{map, ap, subst}
use Rattle.expr_schema.specs.KindView.{kind_view}
use Rattle.expr_schema.specs.SchemaView.{effect_of}
use Rattle.expr_kinds.specs.BuiltinRows.{shape_kind, taken_kinds}
use Rattle.expr_kinds.specs.Checks.{cause_view, literals_view}
use Rattle.expr_kinds.specs.Typed.{AllFit}
use Rattle.expr_kinds.proofs.Tabled.{row-told}
use Rattle.expr_kinds.proofs.Told.{covers-cause}
use Rattle.expr_kinds.proofs.builtins.row_given.Goals as goal

pub returns-clause-ok : goal.returns-clause-ok
returns-clause-ok c =
    let a = c.args.arguments.now in
    let r = c.args.row.now in
    let x = kind_view c.in_ok-item.item in
    let f = effect_of c.joined_effect-effect.result in
    row-told a r _ x
    (subst (λ ks. AllFit (map kind_view ks) (taken_kinds x r.takes) (shape_kind x r.more)) c.as_slice-kinds.ensures (c.in_ok-arguments_fit.ensures.ok c.if-not-branch.false))
    c.joined_effect-effect.ensures.first
    (covers-cause f (effect_of c.cause_effect-own.result) (cause_view r.cause) (literals_view c.as_slice.result.now) (literals_view a.literals) c.cause_effect-own.ensures (ap literals_view c.as_slice.ensures) c.joined_effect-effect.ensures.second)
    (λ v h. (c.in_ok-kind.ensures.ok v).0 h)
