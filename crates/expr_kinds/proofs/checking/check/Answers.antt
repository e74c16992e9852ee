use Rattle.std.proofs.Common.{sym, subst}
use Rattle.expr_schema.specs.SchemaView.{scope_of}
use Rattle.expr_kinds.specs.Checks.{Upholds}
use Rattle.expr_kinds.proofs.Refined.{keeps-self}
use Rattle.expr_kinds.proofs.checking.check.Goals as goal

pub returns-clause-ok : goal.returns-clause-ok
returns-clause-ok c = c.in_ok-checked.ensures.ok (scope_of c.args.schema.now) (subst (λ k. Upholds k (scope_of c.args.schema.now)) (sym c.of-known.ensures) (keeps-self (scope_of c.args.schema.now)))
