use Rattle.std.proofs.Common.{◌≡◌, sym, ◌∙◌, subst}
use Rattle.expr_functions.specs.Strictness.{operator_strictness}
use Rattle.expr_functions.specs.declared.strictness.Strictness.TheVariants.{Both}
use Rattle.expr_tree.specs.Term.{operation}
use Rattle.expr_schema.specs.Kinds.{bool}
use Rattle.expr_schema.specs.KindView.{kind_view}
use Rattle.expr_schema.specs.SchemaView.{effect_of}
use Rattle.expr_schema.specs.declared.kind.Kind.TheVariants as memory
use Rattle.expr_schema.proofs.Shapes.{kind_view-Bool}
use Rattle.expr_kinds.specs.Checks.{Checks}
use Rattle.expr_kinds.specs.Narrowing.{after}
use Rattle.expr_kinds.proofs.Judged.{fits-same, if-ok}
use Rattle.expr_kinds.proofs.Told.{told-and, told-match, told-or}
use Rattle.expr_kinds.proofs.operations.operation_checked.Goals as goal

pub returns-in-Both-clause-ok : goal.returns-in-Both-clause-ok
returns-in-Both-clause-ok c =
    let both : operator_strictness c.args.operator ≡ Both = sym c.strictness_of.ensures ∙ c.in-Both.is in
    if-ok c.row_checked.result _ _ (λ d h s l r lits hl hr. h s l r lits hl (subst (λ st. Checks c.args.right.now (after st l s) r) both hr)) (c.row_checked.ensures.ok both)

pub returns-in-Some-clause-ok : goal.returns-in-Some-clause-ok
returns-in-Some-clause-ok c = λ s l r lits hl hr e covers.
    told-and c.args.left.now c.args.right.now (effect_of c.in-Some.effect) c.args.operator s l r (sym c.strictness_of.ensures ∙ c.in-EndsAtFalse.is) c.in-Some.ensures.left c.in-Some.ensures.right
    (kind_view memory.Bool) (fits-same bool (kind_view memory.Bool) (sym kind_view-Bool)) hl hr e covers

pub returns-in-Some-sides_effect-clause-ok : goal.returns-in-Some-sides_effect-clause-ok
returns-in-Some-sides_effect-clause-ok c = λ s l r lits hl hr e covers.
    told-or c.args.left.now c.args.right.now (effect_of c.in-Some-sides_effect.effect) c.args.operator s l r (sym c.strictness_of.ensures ∙ c.in-EndsAtTrue.is) c.in-Some-sides_effect.ensures.left c.in-Some-sides_effect.ensures.right
    (kind_view memory.Bool) (fits-same bool (kind_view memory.Bool) (sym kind_view-Bool)) hl hr e covers

pub returns-in-Some-sides_effect-2-clause-ok : goal.returns-in-Some-sides_effect-2-clause-ok
returns-in-Some-sides_effect-2-clause-ok c = λ s l r lits hl hr e covers.
    told-match c.args.left.now c.args.right.now (effect_of c.in-Some-sides_effect-2.sides) c.args.operator s l r (effect_of c.joined_effect-effect.result) (sym c.strictness_of.ensures ∙ c.in-Pattern.is) c.in-Some-sides_effect-2.ensures.left c.in-Some-sides_effect-2.ensures.right
    c.joined_effect-effect.ensures.first c.joined_effect-effect.ensures.second (kind_view memory.Bool) (fits-same bool (kind_view memory.Bool) (sym kind_view-Bool)) hl hr e covers

pub returns-in-None-clause-ok : goal.returns-in-None-clause-ok
returns-in-None-clause-ok c = λ s l r lits hl hr. c.unknown.ensures.tree s (operation c.args.operator l r)

pub returns-in-None-sides_effect-clause-ok : goal.returns-in-None-sides_effect-clause-ok
returns-in-None-sides_effect-clause-ok c = λ s l r lits hl hr. c.unknown-in-None-sides_effect.ensures.tree s (operation c.args.operator l r)

pub returns-in-None-sides_effect-2-clause-ok : goal.returns-in-None-sides_effect-2-clause-ok
returns-in-None-sides_effect-2-clause-ok c = λ s l r lits hl hr. c.unknown-in-None-sides_effect-2.ensures.tree s (operation c.args.operator l r)
