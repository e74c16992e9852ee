use Rattle.std.proofs.Common.{ap, ◌∙◌}
use Rattle.expr_schema.specs.SchemaView.{scope_of}
use Rattle.expr_kinds.specs.Checks.{with_bound}
use Rattle.expr_kinds.specs.declared.names.BoundKind.{BoundKind}
use Rattle.expr_kinds.proofs.Told.{bound-last}
use Rattle.expr_kinds.proofs.names.Known.bind.Goals as goal

pub returns-clause-ok : goal.returns-clause-ok
returns-clause-ok c =
    let s = scope_of c.args.self.now.schema.now in
    let old = c.args.self.now.bound.items in
    let b : BoundKind = record { name = c.args.name; kind = c.args.kind } in
    ap (λ bs. with_bound bs s) c.in_ok-push.ensures.items ∙ bound-last old b s
