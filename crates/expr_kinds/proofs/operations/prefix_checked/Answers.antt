use Rattle.std.proofs.Common.{sym}
use Rattle.expr_tree.specs.Term.{unary}
use Rattle.expr_schema.specs.KindView.{kind_view}
use Rattle.expr_kinds.specs.Checks.{base_kind}
use Rattle.expr_kinds.proofs.Judged.{fits-same}
use Rattle.expr_kinds.proofs.Told.{told-prefix}
use Rattle.expr_kinds.proofs.operations.prefix_checked.Goals as goal

pub returns-clause-ok : goal.returns-clause-ok
returns-clause-ok c = λ s t h e covers.
    told-prefix c.args.operand.now c.args.operator (base_kind c.taken_by-base.result) (kind_view c.in_ok-kind.kind) c.taken_by-base.ensures (c.fits_base.ensures c.if-not-fits_base.false) (fits-same (base_kind c.taken_by-base.result) (kind_view c.in_ok-kind.kind) (sym c.in_ok-kind.ensures.ok)) s t h e covers

pub returns-then-not-fits_base-clause-ok : goal.returns-then-not-fits_base-clause-ok
returns-then-not-fits_base-clause-ok c = λ s t h. c.unknown.ensures.tree s (unary c.args.operator t)
