-- Integers in a row.
use Rattle.std.proofs.Common.{◌≡◌, ℕ, ◌+◌, ℤ, pos, ◌+ℤ◌, ◌-ℤ◌, ◌<ℤ◌, int_le, unsigned_abs, true, false, cond, List, [], ◌∷◌, ◌++◌, length, refl, ap, sym, ◌∙◌, arith, length-append}
use Rattle.std.proofs.lemmas.Int.{ints}
use Rattle.std.proofs.lemmas.List.FromFn.{map-range_with_len_more}
use Rattle.expr_value.specs.declared.value.Value as value
use Rattle.expr_value.specs.declared.value.Value.{Value}
use Rattle.expr_operators.specs.Positions.{how_many, in_a_row}

in_a_row-more : (first : ℤ) (n : ℕ) → in_a_row first (n + 1) ≡ in_a_row first n ++ value.Integer (first +ℤ pos n) ∷ []
unfolding in_a_row
in_a_row-more first n = map-range_with_len_more (λ k. value.Integer (first +ℤ pos k)) 0 n n (omega arith)

pub length-next : (v : Value) (xs ys : List Value) → ys ≡ xs ++ v ∷ [] → length ys ≡ length xs + 1
length-next v xs ys e = omega (arith, ap length e, length-append xs (v ∷ []))

-- a row that the next integer is added to
pub in_a_row-next : (first m : ℤ) (xs ys : List Value) → xs ≡ in_a_row first (length xs) → m ≡ first +ℤ pos (length xs) → ys ≡ xs ++ value.Integer m ∷ []
    → ys ≡ in_a_row first (length ys)
in_a_row-next first m xs ys row next e =
    let long = length-next (value.Integer m) xs ys e in
    e ∙ (λ i. row i ++ value.Integer (next i) ∷ []) ∙ sym (in_a_row-more first (length xs)) ∙ ap (in_a_row first) (sym long)

pub how_many-up : (first last : ℤ) (n : ℕ) → last ≡ first +ℤ pos n → how_many first last ≡ n + 1
unfolding how_many
how_many-up first last n e =
    let up : int_le first last ≡ true = grind (arith, ints) in
    let gap : last -ℤ first ≡ pos n = omega (arith, ints) in
    ap (λ b. cond b (unsigned_abs (last -ℤ first) + 1) 0) up ∙ ap (λ z. unsigned_abs z + 1) gap

pub how_many-down : (first last : ℤ) → last <ℤ first → how_many first last ≡ 0
unfolding how_many
how_many-down first last h =
    let down : int_le first last ≡ false = grind (arith, ints) in
    ap (λ b. cond b (unsigned_abs (last -ℤ first) + 1) 0) down

pub in_a_row-none : (first : ℤ) → in_a_row first 0 ≡ []
unfolding in_a_row
in_a_row-none first = refl
