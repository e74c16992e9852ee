use Rattle.std.proofs.Common.{map, sym, ap, subst}
use Rattle.expr_schema.specs.Kinds.{never}
use Rattle.expr_schema.specs.KindView.{kind_view}
use Rattle.expr_schema.specs.SchemaView.{signature_of}
use Rattle.expr_kinds.specs.Typed.{AllFit}
use Rattle.expr_kinds.proofs.Judged.{fits-same}
use Rattle.expr_kinds.proofs.Tabled.{told-signed, unknown-call}
use Rattle.expr_kinds.proofs.calls.signed_checked.Goals as goal

pub returns-then-not-all_fit-clause-ok : goal.returns-then-not-all_fit-clause-ok
returns-then-not-all_fit-clause-ok c = λ s key p q. unknown-call c.args.arguments.now c.unknown.result c.unknown.ensures.kind c.unknown.ensures.effect s key p

pub returns-clause-ok : goal.returns-clause-ok
returns-clause-ok c = λ s key p q.
    let a = c.args.arguments.now in
    let sig = signature_of c.args.signature.now in
    let fit =
    subst (λ xs. AllFit (map kind_view a.kinds) (map kind_view xs) never) c.as_slice-2.ensures (
    subst (λ xs. AllFit (map kind_view xs) (map kind_view c.as_slice-2.result.now) never) c.as_slice.ensures (c.all_fit.ensures c.if-not-all_fit.false)
    ) in
    told-signed a _ s key p sig q fit c.joined_effect-effect.ensures.first c.joined_effect-effect.ensures.second (fits-same sig.gives (kind_view c.in_ok-kind.kind) (ap kind_view (sym c.in_ok-kind.ensures.ok)))
