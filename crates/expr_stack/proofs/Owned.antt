-- Values that were made and are now above the rest.
use Rattle.std.proofs.Common.{◌≡◌, ℤ, Bool, not, List, ◌∷◌, Ok, refl, ap, ◌∙◌, sym, subst}
use Rattle.std.specs.Int.{int_wrapping_neg, w64}
use Rattle.expr_functions.specs.declared.operator.UnaryOperator.TheVariants.{Not, Negative}
use Rattle.expr_operators.specs.Operators.{unary_answer}
use Rattle.expr_stack.specs.Cells.{cell_value, made_cell}
use Rattle.expr_stack.specs.Pushes.{HasPushed}
use Rattle.expr_stack.specs.declared.cell.Cell.TheVariants as cell
use Rattle.expr_stack.specs.declared.cell.Cell.{Cell}
use Rattle.expr_value.specs.Answers.{Answer}
use Rattle.expr_value.specs.declared.value.Value as value
use Rattle.expr_value.specs.declared.value.Value.{Value}
use Rattle.expr_stack.proofs.Helds.{integer_cell, truth_cell}

pub owned_now : (allowed : Answer → Type 0) (v : Value) (mid rest new : List Cell) → made_cell v ≡ cell.Own v → mid ≡ rest → new ≡ cell.Own v ∷ mid → allowed (Ok v) → HasPushed allowed rest new
owned_now allowed v mid rest new own e is may = (v, may, is ∙ (ap (λ c. c ∷ mid) (sym own) ∙ ap (λ cs. made_cell v ∷ cs) e))

said_not : (kept : List Value) (b : Bool) → Ok (value.Bool (not b)) ≡ unary_answer Not (cell_value kept (cell.Value (value.Bool b)))
unfolding value.out-Value denote.Hole.Carrier.out
said_not kept b = refl

said_negative : (kept : List Value) (n : ℤ) → Ok (value.Integer (int_wrapping_neg w64 n)) ≡ unary_answer Negative (cell_value kept (cell.Value (value.Integer n)))
unfolding value.out-Value denote.Hole.Carrier.out
said_negative kept n = refl

pub noted_not : (kept : List Value) (b : Bool) (below : List Cell) (x : Cell) (rest : List Cell) → cell.Value (value.Bool b) ∷ below ≡ x ∷ rest
    → HasPushed (λ a. a ≡ unary_answer Not (cell_value kept x)) rest (cell.Value (value.Bool (not b)) ∷ below)
noted_not kept b below x rest e =
    let x_is : cell.Value (value.Bool b) ≡ x = cc in
    let rest_is : below ≡ rest = cc in
    subst (λ c. HasPushed (λ a. a ≡ unary_answer Not (cell_value kept c)) rest (cell.Value (value.Bool (not b)) ∷ below)) x_is
    (value.Bool (not b), said_not kept b, ap (λ c. c ∷ below) (sym (truth_cell (not b))) ∙ ap (λ cs. made_cell (value.Bool (not b)) ∷ cs) rest_is)

pub negated : (kept : List Value) (n m : ℤ) (below : List Cell) (x : Cell) (rest : List Cell) → cell.Value (value.Integer n) ∷ below ≡ x ∷ rest → m ≡ int_wrapping_neg w64 n
    → HasPushed (λ a. a ≡ unary_answer Negative (cell_value kept x)) rest (cell.Value (value.Integer m) ∷ below)
negated kept n m below x rest e is =
    let x_is : cell.Value (value.Integer n) ≡ x = cc in
    let rest_is : below ≡ rest = cc in
    subst (λ c. HasPushed (λ a. a ≡ unary_answer Negative (cell_value kept c)) rest (cell.Value (value.Integer m) ∷ below)) x_is
    (value.Integer m, ap (λ k. Ok (value.Integer k)) is ∙ said_negative kept n, ap (λ c. c ∷ below) (sym (integer_cell m)) ∙ ap (λ cs. made_cell (value.Integer m) ∷ cs) rest_is)
