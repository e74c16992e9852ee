use Rattle.std.proofs.Common.{refl, sym}
use Rattle.expr_tree.specs.Term.{index, literal, postfix}
use Rattle.expr_value.specs.declared.value.Value as value
use Rattle.expr_schema.specs.Kinds.{any, map, nilable}
use Rattle.expr_schema.specs.KindView.{fields_view, kind_view}
use Rattle.expr_schema.specs.declared.kind.Kind.TheVariants as memory
use Rattle.expr_schema.proofs.Shapes.{kind_view-Any}
use Rattle.expr_kinds.specs.Scopes.{at_name}
use Rattle.expr_kinds.proofs.TableKinds.{core-or-nil, nilable-nilable, with-nil}
use Rattle.expr_kinds.proofs.Judged.{fits-same}
use Rattle.expr_kinds.proofs.Told.{told-any-field, told-field, told-optional-field}
use Rattle.expr_kinds.proofs.members.member_checked.Goals as goal

pub returns-in-Some-clause-ok : goal.returns-in-Some-clause-ok
returns-in-Some-clause-ok c = λ s t h e covers.
    told-field c.args.operand.now c.args.name.now s t h e covers (fields_view c.in-Some.fields.now) c.args.optional (kind_view c.in_ok-kind.kind) c.in-Some.ensures c.in_ok-kind.ensures.ok

pub returns-in-Some-fields_of-clause-ok : goal.returns-in-Some-fields_of-clause-ok
returns-in-Some-fields_of-clause-ok c = λ s t h e covers.
    let operand = c.args.operand.now in
    let core = kind_view c.without_nil.result.now in
    let fs = fields_view c.in-Some-fields_of.fields.now in
    let part = kind_view c.in_ok-part.part in
    told-optional-field operand c.args.name.now s t h e covers fs c.args.optional (kind_view c.in_ok-kind-2.kind) c.if-not-optional.false
    (λ v i. nilable-nilable (nilable core) core (map fs) refl c.in-Some-fields_of.ensures v (core-or-nil (kind_view operand.kind) core c.without_nil.ensures.values v i))
    (with-nil part (kind_view c.in_ok-kind-2.kind) c.in_ok-kind-2.ensures.ok (at_name fs c.args.name.now) c.in_ok-part.ensures.ok)

pub returns-clause-ok : goal.returns-clause-ok
returns-clause-ok c = λ s t h e covers.
    told-any-field c.args.operand.now c.args.name.now s t h e covers c.args.optional (kind_view memory.Any) c.if-not-optional.false (fits-same any (kind_view memory.Any) (sym kind_view-Any))

pub returns-then-not-optional-clause-ok : goal.returns-then-not-optional-clause-ok
returns-then-not-optional-clause-ok c = λ s t h. c.unknown.ensures.tree s (postfix (index (literal (value.String c.args.name.now)) c.args.optional) t)
