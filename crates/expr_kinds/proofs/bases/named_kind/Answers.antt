use Rattle.std.proofs.Common.{ap, ◌∙◌, Some}
use Rattle.expr_schema.specs.Kinds.{map}
use Rattle.expr_schema.specs.KindView.{fields_from, kind_view}
use Rattle.expr_schema.proofs.Shapes.{kind_view-Map}
use Rattle.expr_kinds.proofs.TableKinds.{none-named}
use Rattle.expr_kinds.proofs.bases.named_kind.Goals as goal

pub returns-clause-ok : goal.returns-clause-ok
returns-clause-ok c =
    kind_view-Map c.open.new.self ∙ ap map (c.in_ok-open.ensures.ok ∙ ap (λ ps. fields_from ps (Some (kind_view c.args.kind))) (none-named c.new-fields.result c.new-fields.ensures))
