use Rattle.std.proofs.Common.{◌≡◌, sym, ap, ◌∙◌, subst}
use Rattle.expr_schema.specs.Kinds.{Fits, nilable}
use Rattle.expr_schema.specs.KindView.{kind_view}
use Rattle.expr_schema.proofs.Shapes.{kind_view-Nil, kind_view-Nilable}
use Rattle.expr_kinds.specs.Checks.{base_kind, side_kind}
use Rattle.expr_kinds.proofs.TableKinds.{into-nilable, nil-nilable, nilable-nilable}
use Rattle.expr_kinds.proofs.bases.fits_side.Goals as goal

pub returns-in-Of : goal.returns-in-Of
returns-in-Of c = λ t. subst (λ w. Fits (kind_view c.args.kind.now) (side_kind w)) (sym c.in-Of.is) (c.fits_base.ensures t)

pub returns-in-Nil : goal.returns-in-Nil
returns-in-Nil c = λ t. subst (λ w. Fits (kind_view c.args.kind.now) (side_kind w)) (sym c.in-OrNil.is) (nil-nilable (kind_view c.args.kind.now) (base_kind c.in-OrNil.base) (ap kind_view c.in-Nil.is ∙ kind_view-Nil))

pub returns-in-Nilable : goal.returns-in-Nilable
returns-in-Nilable c = λ t.
    let k = kind_view c.args.kind.now in
    let inner = kind_view c.in-Nilable.inner in
    let same : k ≡ nilable inner = ap kind_view c.in-Nilable.is ∙ kind_view-Nilable c.in-Nilable.inner in
    subst (λ w. Fits k (side_kind w)) (sym c.in-OrNil.is) (nilable-nilable k inner (base_kind c.in-OrNil.base) same (subst (λ x. Fits (kind_view x) (base_kind c.in-OrNil.base)) c.get.ensures (c.fits_base-in-Nilable.ensures t)))

pub returns-in_default : goal.returns-in_default
returns-in_default c = λ t. subst (λ w. Fits (kind_view c.args.kind.now) (side_kind w)) (sym c.in-OrNil.is) (into-nilable (kind_view c.args.kind.now) (base_kind c.in-OrNil.base) (c.fits_base-in_default.ensures t))
