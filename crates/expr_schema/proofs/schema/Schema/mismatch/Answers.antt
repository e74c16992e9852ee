use Rattle.expr_context.specs.Contexts.{context_of}
use Rattle.expr_schema.specs.KindView.{fields_view}
use Rattle.expr_schema.specs.SchemaView.{scope_of}
use Rattle.expr_schema.specs.Scopes.{AllStand, Conforms}
use Rattle.expr_schema.proofs.Contexts.{conforms, either}
use Rattle.expr_schema.proofs.schema.Schema.mismatch.Goals as goal

pub returns : goal.returns
returns c =
    let s = c.args.self.now in
    let m = c.args.context.now in
    either c.fields_mismatch.result (AllStand (fields_view s.names) m) (Conforms (scope_of s) (context_of m)) _ (conforms s m) c.fields_mismatch.ensures
