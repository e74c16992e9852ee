use Rattle.expr_kinds.proofs.operations.sides_effect.Goals as goal

pub returns-then-fits_base-2-clause-left : goal.returns-then-fits_base-2-clause-left
returns-then-fits_base-2-clause-left c = (c.fits_base.ensures c.if-fits_base.true, c.joined_effect.ensures.first)

pub returns-then-fits_base-2-clause-right : goal.returns-then-fits_base-2-clause-right
returns-then-fits_base-2-clause-right c = (c.fits_base-then-fits_base.ensures c.if-fits_base-2.true, c.joined_effect.ensures.second)
