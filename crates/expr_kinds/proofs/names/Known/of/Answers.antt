use Rattle.std.proofs.Common.{ap}
use Rattle.expr_schema.specs.SchemaView.{scope_of}
use Rattle.expr_kinds.specs.Checks.{with_bound}
use Rattle.expr_kinds.proofs.names.Known.of.Goals as goal

pub returns : goal.returns
returns c = ap (λ bs. with_bound bs (scope_of c.args.schema.now)) c.new.ensures.items
