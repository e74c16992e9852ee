use Rattle.std.proofs.Common.{ap, ◌∙◌, inl, inr}
use Rattle.expr_schema.specs.KindView.{kind_view}
use Rattle.expr_schema.proofs.Shapes.{kind_view-Array, kind_view-Bytes, kind_view-String}
use Rattle.expr_kinds.proofs.forms.keeps_kind.Goals as goal

pub returns-in-Array : goal.returns-in-Array
returns-in-Array c = λ t. inl (kind_view c.in-Array.field-0, ap kind_view c.in-Array.is ∙ kind_view-Array c.in-Array.field-0)

pub returns-in-String : goal.returns-in-String
returns-in-String c = λ t. inr (inl (ap kind_view c.in-String.is ∙ kind_view-String))

pub returns-in-Bytes : goal.returns-in-Bytes
returns-in-Bytes c = λ t. inr (inr (ap kind_view c.in-Bytes.is ∙ kind_view-Bytes))
