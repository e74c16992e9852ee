use Rattle.std.proofs.Common.{◌≡◌, [], ◌∷◌, sym, subst}
use Rattle.expr_tree.specs.Term.{operation}
use Rattle.expr_schema.specs.KindView.{kind_view}
use Rattle.expr_schema.specs.SchemaView.{effect_of}
use Rattle.expr_kinds.specs.Checks.{literals_view, row_view}
use Rattle.expr_kinds.specs.Typed.{OneOf, literal_of}
use Rattle.expr_kinds.proofs.Judged.{covers-through, fits-same}
use Rattle.expr_kinds.proofs.Told.{covers-cause, told-row}
use Rattle.expr_kinds.proofs.operations.row_checked.Goals as goal

pub returns-in_ok-kind-in-Some-clause-ok : goal.returns-in_ok-kind-in-Some-clause-ok
returns-in_ok-kind-in-Some-clause-ok c = λ q s l r lits hl hr e covers.
    let row = row_view c.in-Some.row in
    let f = effect_of c.joined_effect-effect.result in
    let sides = effect_of c.joined_effect-sides.result in
    let own = effect_of c.cause_effect-own.result in
    let left = c.args.left.now in
    let right = c.args.right.now in
    told-row left right f c.args.operator s l r row q (subst (λ rs. OneOf (λ x. x ≡ row) rs) c.rows_of.ensures c.in-Some.ensures.among) c.in-Some.ensures.left c.in-Some.ensures.right
    (covers-through f sides (effect_of left.effect) c.joined_effect-effect.ensures.first c.joined_effect-sides.ensures.first)
    (covers-through f sides (effect_of right.effect) c.joined_effect-effect.ensures.first c.joined_effect-sides.ensures.second)
    (covers-cause f own row.cause (literals_view c.args.literals.now) (literal_of l ∷ literal_of r ∷ []) c.cause_effect-own.ensures lits c.joined_effect-effect.ensures.second)
    (kind_view c.in_ok-kind-in-Some.kind) (fits-same row.gives (kind_view c.in_ok-kind-in-Some.kind) (sym c.in_ok-kind-in-Some.ensures.ok)) hl hr e covers

pub returns-in-None-clause-ok : goal.returns-in-None-clause-ok
returns-in-None-clause-ok c = λ q s l r lits hl hr. c.unknown.ensures.tree s (operation c.args.operator l r)
