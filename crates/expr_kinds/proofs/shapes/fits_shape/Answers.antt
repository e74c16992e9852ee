use Rattle.std.proofs.Common.{sym, subst}
use Rattle.expr_schema.specs.Kinds.{Fits}
use Rattle.expr_schema.specs.KindView.{kind_view}
use Rattle.expr_kinds.specs.BuiltinRows.{shape_kind}
use Rattle.expr_kinds.proofs.shapes.fits_shape.Goals as goal

pub returns-in-Of-clause-ok : goal.returns-in-Of-clause-ok
returns-in-Of-clause-ok c = λ t. subst (λ w. Fits (kind_view c.args.kind.now) (shape_kind (kind_view c.args.item.now) w)) (sym c.in-Of.is) (c.fits_base.ensures t)

pub returns-clause-ok : goal.returns-clause-ok
returns-clause-ok c = λ t v h. (c.in_ok-wanted.ensures.ok v).1 (c.fits.ensures t v h)
