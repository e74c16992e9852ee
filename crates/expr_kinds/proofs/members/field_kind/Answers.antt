use Rattle.std.proofs.Common.{sym, ap, ◌∙◌}
use Rattle.expr_schema.specs.Kinds.{nilable}
use Rattle.expr_schema.specs.KindView.{fields_view, kind_view, named_of}
use Rattle.expr_value.specs.Names.{find}
use Rattle.expr_schema.proofs.Shapes.{kind_view-Nil}
use Rattle.expr_kinds.specs.Scopes.{at_name}
use Rattle.expr_kinds.proofs.TableKinds.{field-missing, field-optional, field-other, field-required, same-with-nil}
use Rattle.expr_kinds.proofs.Judged.{fits-same}
use Rattle.expr_kinds.proofs.members.field_kind.Goals as goal

pub returns-then-field-clause-ok : goal.returns-then-field-clause-ok
returns-then-field-clause-ok c =
    fits-same _ (kind_view c.in_ok-kind-in-Some.kind) (field-required c.args.fields.now c.args.name.now c.in-Some.field.now (c.in-Some.ensures ∙ ap (λ n. find n (named_of c.args.fields.now)) c.as_str.ensures) c.if-field.true ∙ ap kind_view (sym c.in_ok-kind-in-Some.ensures.ok))

pub returns-in_ok-with_nil-in-Some-clause-ok : goal.returns-in_ok-with_nil-in-Some-clause-ok
returns-in_ok-with_nil-in-Some-clause-ok c =
    same-with-nil (kind_view c.in_ok-kind-in-Some.kind) (kind_view c.in_ok-with_nil-in-Some.with_nil) c.in_ok-with_nil-in-Some.ensures.ok (at_name (fields_view c.args.fields.now) c.args.name.now)
    (field-optional c.args.fields.now c.args.name.now c.in-Some.field.now (c.in-Some.ensures ∙ ap (λ n. find n (named_of c.args.fields.now)) c.as_str.ensures) c.if-field.false ∙ ap (λ k. nilable (kind_view k)) (sym c.in_ok-kind-in-Some.ensures.ok))

pub returns-in_ok-with_nil-in-Some-others-clause-ok : goal.returns-in_ok-with_nil-in-Some-others-clause-ok
returns-in_ok-with_nil-in-Some-others-clause-ok c =
    same-with-nil (kind_view c.in_ok-kind-in-Some-others.kind) (kind_view c.in_ok-with_nil-in-Some-others.with_nil) c.in_ok-with_nil-in-Some-others.ensures.ok (at_name (fields_view c.args.fields.now) c.args.name.now)
    (field-other c.args.fields.now c.args.name.now (c.in-None.ensures ∙ ap (λ n. find n (named_of c.args.fields.now)) c.as_str.ensures) (kind_view c.in-Some-others.other.now) c.in-Some-others.ensures ∙ ap (λ k. nilable (kind_view k)) (sym c.in_ok-kind-in-Some-others.ensures.ok))

pub returns-in-None-others-clause-ok : goal.returns-in-None-others-clause-ok
returns-in-None-others-clause-ok c =
    fits-same _ _ (field-missing c.args.fields.now c.args.name.now (c.in-None.ensures ∙ ap (λ n. find n (named_of c.args.fields.now)) c.as_str.ensures) c.in-None-others.ensures ∙ sym kind_view-Nil)
