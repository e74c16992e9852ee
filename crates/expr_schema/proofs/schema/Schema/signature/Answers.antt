use Rattle.std.proofs.Common.{option_map, ap}
use Rattle.expr_schema.specs.SchemaView.{signature_of}
use Rattle.expr_schema.proofs.schema.Schema.signature.Goals as goal

pub returns : goal.returns
returns c = ap (option_map signature_of) c.get.ensures
