use Rattle.std.proofs.Common.{IfSome, sym, subst}
use Rattle.expr_tree.specs.Term.{index, postfix}
use Rattle.expr_schema.specs.Kinds.{any}
use Rattle.expr_schema.specs.KindView.{kind_view}
use Rattle.expr_schema.specs.SchemaView.{effect_of}
use Rattle.expr_schema.specs.declared.kind.Kind.TheVariants as memory
use Rattle.expr_schema.proofs.Shapes.{kind_view-Any}
use Rattle.expr_kinds.specs.Checks.{PartFits}
use Rattle.expr_kinds.proofs.Judged.{fits-same}
use Rattle.expr_kinds.proofs.Told.{told-any-part, told-part}
use Rattle.expr_kinds.proofs.members.part_checked.Goals as goal

pub returns-in-Some-clause-ok : goal.returns-in-Some-clause-ok
returns-in-Some-clause-ok c = λ s t i ht hi e covers.
    told-part c.args.operand.now c.args.key.now (effect_of c.joined_effect-effect.result) c.joined_effect-effect.ensures.first c.joined_effect-effect.ensures.second c.args.optional s t i ht hi e covers (kind_view c.in-Some.kind)
    (subst (λ o. IfSome o (λ k. PartFits (kind_view c.args.operand.now.kind) (kind_view c.args.key.now.kind) (kind_view k))) c.in-Some.is c.in_ok-part.ensures.ok)

pub returns-then-optional-clause-ok : goal.returns-then-optional-clause-ok
returns-then-optional-clause-ok c = λ s t i ht hi e covers.
    told-any-part c.args.operand.now c.args.key.now (effect_of c.joined_effect-effect.result) c.joined_effect-effect.ensures.first c.joined_effect-effect.ensures.second c.args.optional s t i ht hi e covers
    (kind_view memory.Any) c.if-optional.true (fits-same any (kind_view memory.Any) (sym kind_view-Any))

pub returns-else-optional-clause-ok : goal.returns-else-optional-clause-ok
returns-else-optional-clause-ok c = λ s t i ht hi. c.unknown.ensures.tree s (postfix (index i c.args.optional) t)
