use Rattle.expr_schema.specs.SchemaView.{scope_of}
use Rattle.expr_kinds.proofs.TableKinds.{given-required}
use Rattle.expr_kinds.proofs.names.required_kind.Goals as goal

pub returns-then-field : goal.returns-then-field
returns-then-field c =
    given-required c.names.result.now (scope_of c.args.schema.now).names c.args.name.now c.in-Some.field.now c.names.ensures c.in-Some.ensures c.if-field.true
