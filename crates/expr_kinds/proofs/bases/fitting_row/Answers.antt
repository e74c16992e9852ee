use Rattle.expr_kinds.specs.Checks.{row_view}
use Rattle.expr_kinds.proofs.TableKinds.{row-among}
use Rattle.expr_kinds.proofs.bases.fitting_row.Goals as goal

pub returns-then-fits_side-2-clause-among : goal.returns-then-fits_side-2-clause-among
returns-then-fits_side-2-clause-among c = row-among row_view c.args.rows.now c.loop-row.row-index _ c.loop-row-test.true
