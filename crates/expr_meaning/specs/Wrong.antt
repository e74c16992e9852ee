-- Two wrong codes of `let a = 1; map([2], {let a = #; a})[0] + a`: the slot of an inner line overwrites the
-- outer one.
use Rattle.std.specs.Prelude.{true, ℕ, List, [], ◌∷◌, codes, false, pos}
use Rattle.expr_tree.specs.Term.{name, literal, operation, choice, Block, answers, line}
use Rattle.expr_functions.specs.declared.operator.Operator.TheVariants.{Add}
use Rattle.expr_value.specs.declared.value.Value as value
use Rattle.expr_value.specs.declared.value.Value.{Value}
use Rattle.expr_code.specs.Instructions.{Op, push, load, store, act, asks, jump, jump_if_false, operate, collect, pick_at}
use Rattle.expr_code.specs.declared.binds.Binds.TheVariants.{Index}

abbrev pub integer_term_of : ℕ → Value
integer_term_of n = value.Integer (pos n)

-- the slots of the call start at the slot of the outer line
abbrev pub covering_code : List (List Op)
covering_code =
    (
    push (integer_term_of 1) ∷ store 0 ∷ push (integer_term_of 2) ∷ act (collect 1) ∷ asks (codes "map") 1 0 0 Index ∷ act (pick_at (integer_term_of 0) false) ∷ load 0 ∷ act (operate Add) ∷ []
    ) ∷ (load 0 ∷ store 2 ∷ load 2 ∷ []) ∷ []

-- the inner line is stored in the slot of the outer line
abbrev pub overwriting_code : List (List Op)
overwriting_code =
    (
    push (integer_term_of 1) ∷ store 0 ∷ push (integer_term_of 2) ∷ act (collect 1) ∷ asks (codes "map") 1 0 1 Index ∷ act (pick_at (integer_term_of 0) false) ∷ load 0 ∷ act (operate Add) ∷ []
    ) ∷ (load 1 ∷ store 0 ∷ load 0 ∷ []) ∷ []

-- `let x = 1; (if true { let x = 2; x } else { 0 }) + x`
abbrev pub shadowed_program : Block
shadowed_program =
    line (codes "x") (literal (integer_term_of 1)) (
    answers (
    operation Add (choice (literal (value.Bool true)) (line (codes "x") (literal (integer_term_of 2)) (answers (name (codes "x")))) (answers (literal (integer_term_of 0)))) (name (codes "x"))
    )
    )

-- and a wrong code of it, which finds all that it needs: the inner line is stored in the slot of the outer
-- line
abbrev pub shadowing_code : List (List Op)
shadowing_code =
    (
    push (integer_term_of 1) ∷ store 0 ∷ push (value.Bool true) ∷ jump_if_false 4 ∷ push (integer_term_of 2) ∷ store 0 ∷ load 0 ∷ jump 1 ∷ push (integer_term_of 0) ∷ load 0 ∷ act (operate Add) ∷ []
    ) ∷ []
