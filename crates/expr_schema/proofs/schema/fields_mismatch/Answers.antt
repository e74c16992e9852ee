use Rattle.expr_schema.specs.KindView.{fields_view}
use Rattle.expr_schema.specs.Scopes.{AllStand, MissingStand}
use Rattle.expr_schema.proofs.Contexts.{either, stands}
use Rattle.expr_schema.proofs.schema.fields_mismatch.Goals as goal

pub returns-in-None : goal.returns-in-None
returns-in-None c =
    let F = fields_view c.args.fields.now in
    let m = c.args.context.now in
    either c.missing_mismatch.result (MissingStand F m) (AllStand F m) _ (λ ms. stands F m c.in-None.ensures ms) c.missing_mismatch.ensures
