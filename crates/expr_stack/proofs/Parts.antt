-- The parts of borrowed values.
use Rattle.std.proofs.Common.{◌≡◌, ℕ, Bool, true, false, List, ◌∷◌, Option, Some, None, Ok, refl, ap, ◌∙◌, sym, subst}
use Rattle.std.specs.Prelude.{is_some, option_map, unwrap_or}
use Rattle.expr_arguments.specs.Cow.{cow_value}
use Rattle.expr_arguments.specs.Parts.{index_answer, or_nil}
use Rattle.expr_arguments.specs.declared.cow.Cow.{Cow}
use Rattle.expr_operators.specs.Positions.{inside}
use Rattle.expr_stack.specs.Cells.{cell_value, made_cell, part_cell, part_cell_in}
use Rattle.expr_stack.specs.Operands.{cell_of_cow}
use Rattle.expr_stack.specs.Pushes.{HasPushedIn}
use Rattle.expr_stack.specs.declared.cell.Cell.TheVariants as cell
use Rattle.expr_stack.specs.declared.cell.Cell.{Cell}
use Rattle.expr_value.specs.Answers.{Answer}
use Rattle.expr_value.specs.declared.value.Value as value
use Rattle.expr_value.specs.declared.value.Value.{Value}

abbrev given : Value → Answer
given v = Ok v

-- what was found in a borrowed value, or nil
pub found_in : (v key : Value) (found : Option Value) (part : Cow) → inside v key ≡ is_some found → Ok (cow_value part) ≡ or_nil found
    → cell_of_cow part ≡ unwrap_or (option_map cell.Value found) (cell.Own value.Nil) → cell_of_cow part ≡ part_cell (cell.Value v) key (cow_value part)
unfolding value.out-Value denote.Hole.Carrier.out
found_in v key (Some x) part i a c =
    let said : given (cow_value part) ≡ given x = a in
    let same : cow_value part ≡ x = cc in
    c ∙ subst (λ w. cell.Value x ≡ part_cell_in (cell.Value v) w (cow_value part)) (sym i) (ap cell.Value (sym same))
found_in v key None part i a c =
    let said : given (cow_value part) ≡ given value.Nil = a in
    let same : cow_value part ≡ value.Nil = cc in
    c ∙ subst (λ w. cell.Own value.Nil ≡ part_cell_in (cell.Value v) w (cow_value part)) (sym i) (ap made_cell (sym same))

-- a part of a value that has none inside was made
pub made_of : (v key part : Value) → inside v key ≡ false → made_cell part ≡ part_cell (cell.Value v) key part
made_of v key part i = subst (λ w. made_cell part ≡ part_cell_in (cell.Value v) w part) (sym i) refl

-- and one that is inside is lent
pub lent_of : (v key part : Value) → inside v key ≡ true → cell.Value part ≡ part_cell (cell.Value v) key part
lent_of v key part i = subst (λ w. cell.Value part ≡ part_cell_in (cell.Value v) w part) (sym i) refl

-- a part of a value in the kept list that needs no place
pub picked_in_place : (kept : List Value) (key : Value) (optional : Bool) (place : ℕ) (below : List Cell) (x : Cell) (rest : List Cell) (held part : Value)
    → cell.Place place ∷ below ≡ x ∷ rest → held ≡ cell_value kept (cell.Place place) → index_answer held key optional ≡ Ok part → made_cell part ≡ cell.Value part
    → HasPushedIn (part_cell x key) (λ a. a ≡ index_answer (cell_value kept x) key optional) rest (cell.Value part ∷ below)
picked_in_place kept key optional place below x rest held part e h i m =
    let x_is : cell.Place place ≡ x = cc in
    let rest_is : below ≡ rest = cc in
    let answer = sym (subst (λ w. index_answer w key optional ≡ Ok part) h i) in
    let stands : cell.Value part ∷ below ≡ made_cell part ∷ rest = cc in
    subst (λ c. HasPushedIn (part_cell c key) (λ a. a ≡ index_answer (cell_value kept c) key optional) rest (cell.Value part ∷ below)) x_is (part, answer, stands)

-- a part that a lent value has inside
pub picked_lent : (kept : List Value) (key : Value) (optional : Bool) (below new : List Cell) (x : Cell) (rest : List Cell) (held part : Value)
    → cell.Value held ∷ below ≡ x ∷ rest → index_answer held key optional ≡ Ok part → inside held key ≡ true → new ≡ cell.Value part ∷ below
    → HasPushedIn (part_cell x key) (λ a. a ≡ index_answer (cell_value kept x) key optional) rest new
picked_lent kept key optional below new x rest held part e i within is =
    let x_is : cell.Value held ≡ x = cc in
    let rest_is : below ≡ rest = cc in
    let stands : new ≡ part_cell (cell.Value held) key part ∷ rest = is ∙ (ap (λ c. c ∷ below) (lent_of held key part within) ∙ ap (λ cs. part_cell (cell.Value held) key part ∷ cs) rest_is) in
    subst (λ c. HasPushedIn (part_cell c key) (λ a. a ≡ index_answer (cell_value kept c) key optional) rest new) x_is (part, sym i, stands)
