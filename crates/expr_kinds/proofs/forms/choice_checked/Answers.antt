use Rattle.expr_tree.specs.Term.{choice, postfix, ternary}
use Rattle.expr_schema.specs.KindView.{kind_view}
use Rattle.expr_schema.specs.SchemaView.{effect_of}
use Rattle.expr_kinds.proofs.Judged.{covers-through}
use Rattle.expr_kinds.proofs.Told.{told-choice, told-ternary}
use Rattle.expr_kinds.proofs.forms.choice_checked.Goals as goal

pub returns-clause-choice : goal.returns-clause-choice
returns-clause-choice c = λ s t a b ht ha hb e covers.
    let f = effect_of c.joined_effect-effect.result in
    let branches = effect_of c.joined_effect-branches.result in
    let first = c.args.first.now in
    let second = c.args.second.now in
    told-choice c.args.test.now first second f (c.fits_base.ensures c.if-not-fits_base.false, c.joined_effect-effect.ensures.first)
    (covers-through f branches (effect_of first.effect) c.joined_effect-effect.ensures.second c.joined_effect-branches.ensures.first)
    (covers-through f branches (effect_of second.effect) c.joined_effect-effect.ensures.second c.joined_effect-branches.ensures.second)
    (kind_view c.in_ok-kind.kind) c.in_ok-kind.ensures.left c.in_ok-kind.ensures.right s t a b ht ha hb e covers

pub returns-clause-ternary : goal.returns-clause-ternary
returns-clause-ternary c = λ s t a b ht ha hb e covers.
    let f = effect_of c.joined_effect-effect.result in
    let branches = effect_of c.joined_effect-branches.result in
    let first = c.args.first.now in
    let second = c.args.second.now in
    told-ternary c.args.test.now first second f (c.fits_base.ensures c.if-not-fits_base.false, c.joined_effect-effect.ensures.first)
    (covers-through f branches (effect_of first.effect) c.joined_effect-effect.ensures.second c.joined_effect-branches.ensures.first)
    (covers-through f branches (effect_of second.effect) c.joined_effect-effect.ensures.second c.joined_effect-branches.ensures.second)
    (kind_view c.in_ok-kind.kind) c.in_ok-kind.ensures.left c.in_ok-kind.ensures.right s t a b ht ha hb e covers

pub returns-then-not-fits_base-clause-choice : goal.returns-then-not-fits_base-clause-choice
returns-then-not-fits_base-clause-choice c = λ s t a b ht ha hb. c.unknown.ensures.tree s (choice t a b)

pub returns-then-not-fits_base-clause-ternary : goal.returns-then-not-fits_base-clause-ternary
returns-then-not-fits_base-clause-ternary c = λ s t a b ht ha hb. c.unknown.ensures.tree s (postfix (ternary a b) t)
