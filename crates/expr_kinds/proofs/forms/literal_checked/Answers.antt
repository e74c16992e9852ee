use Rattle.expr_schema.specs.KindView.{kind_view}
use Rattle.expr_kinds.proofs.Told.{told-literal}
use Rattle.expr_kinds.proofs.forms.literal_checked.Goals as goal

pub returns-clause-ok : goal.returns-clause-ok
returns-clause-ok c = λ s e covers. told-literal c.args.value.now (kind_view c.in_ok-kind.kind) c.in_ok-kind.ensures.ok s e
