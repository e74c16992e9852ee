-- Slots that are written where an item was bound before.
use Rattle.std.proofs.Common.{◌≡◌, ℕ, ◌+◌, ◌<◌, ◌≤◌, List, [], ◌∷◌, ◌++◌, length, map, take, set, refl, ap, ◌∙◌, sym, subst, arith, append_assoc}
use Rattle.std.proofs.lemmas.Grind.{take-set_at}
use Rattle.std.proofs.lemmas.List.{length-map, length-set, map_push, take-map}
use Rattle.expr_stack.specs.Cells.{AreWithin}
use Rattle.expr_stack.specs.Operands.{cell_of}
use Rattle.expr_stack.specs.declared.cell.Cell.TheVariants as cell
use Rattle.expr_stack.specs.declared.cell.Cell.{Cell}
use Rattle.expr_stack.specs.declared.operand.Operand.{Operand}
use Rattle.expr_value.specs.declared.value.Value.{Value}
use Rattle.expr_stack.proofs.Within.{within_cut, within_push, within_take}

module _ (xs : List Operand) (i : ℕ) (a b d : Operand) where
  -- with one more after it
  more : (ys : List Operand) (cells : List Cell) (k n : ℕ) (e : Operand) → n ≡ k + 1 → k < length ys → map cell_of (take k ys) ≡ cells → map cell_of (take n (set ys k e)) ≡ cells ++ cell_of e ∷ []
  more ys cells k n e at l is = ap (map cell_of) (take-set_at ys k n e at l) ∙ map_push cell_of (take k ys) e ∙ ap (λ cs. cs ++ cell_of e ∷ []) is

  pub one_set : i < length xs → map cell_of (take (i + 1) (set xs i a)) ≡ take i (map cell_of xs) ++ cell_of a ∷ []
  one_set l = more xs (take i (map cell_of xs)) i (i + 1) a refl l (sym (take-map cell_of i xs))

  pub two_set : i + 1 < length xs → map cell_of (take (i + 2) (set (set xs i a) (i + 1) b)) ≡ take i (map cell_of xs) ++ cell_of a ∷ cell_of b ∷ []
  two_set l =
      let long : i + 1 < length (set xs i a) = omega (arith, length-set xs i a) in
      more (set xs i a) (take i (map cell_of xs) ++ cell_of a ∷ []) (i + 1) (i + 2) b (omega arith) long (one_set (omega arith)) ∙ append_assoc (take i (map cell_of xs)) (cell_of a ∷ []) (cell_of b ∷ [])

  pub three_set : i + 2 < length xs → map cell_of (take (i + 3) (set (set (set xs i a) (i + 1) b) (i + 2) d)) ≡ take i (map cell_of xs) ++ cell_of a ∷ cell_of b ∷ cell_of d ∷ []
  three_set l =
      let long : i + 2 < length (set (set xs i a) (i + 1) b) = omega (arith, length-set xs i a, length-set (set xs i a) (i + 1) b) in
      more (set (set xs i a) (i + 1) b) (take i (map cell_of xs) ++ cell_of a ∷ cell_of b ∷ []) (i + 2) (i + 3) d (omega arith) long (two_set (omega arith))
      ∙ append_assoc (take i (map cell_of xs)) (cell_of a ∷ cell_of b ∷ []) (cell_of d ∷ [])

-- values that aren't in the kept list, behind others
pub within_one : (n : ℕ) (cells : List Cell) (u : Value) → AreWithin n cells → AreWithin n (cells ++ cell.Value u ∷ [])
within_one n cells u w = within_push n cells (cell.Value u) w tt

pub within_two : (n : ℕ) (cells : List Cell) (u v : Value) → AreWithin n cells → AreWithin n (cells ++ cell.Value u ∷ cell.Value v ∷ [])
within_two n cells u v w = subst (AreWithin n) (append_assoc cells (cell.Value u ∷ []) (cell.Value v ∷ [])) (within_one n (cells ++ cell.Value u ∷ []) v (within_one n cells u w))

pub within_three : (n : ℕ) (cells : List Cell) (u v x : Value) → AreWithin n cells → AreWithin n (cells ++ cell.Value u ∷ cell.Value v ∷ cell.Value x ∷ [])
within_three n cells u v x w = subst (AreWithin n) (append_assoc cells (cell.Value u ∷ cell.Value v ∷ []) (cell.Value x ∷ [])) (within_one n (cells ++ cell.Value u ∷ cell.Value v ∷ []) x (within_two n cells u v w))

module _ (kept now : List Value) (xs ys : List Operand) (slot places : ℕ) (cut : now ≡ take places kept) (below : AreWithin places (take slot (map cell_of xs)))
    (all : AreWithin (length kept) (map cell_of xs)) where
  left : AreWithin (length now) (take slot (map cell_of xs))
  left = subst (λ ks. AreWithin (length ks) (take slot (map cell_of xs))) (sym cut) (within_cut kept places (take slot (map cell_of xs)) below (within_take (length kept) slot (map cell_of xs) all))

  -- what is bound, and that it is within the kept list
  abbrev pub Rebinds : List Cell → Type 0
  Rebinds added = (map cell_of ys ≡ take slot (map cell_of xs) ++ added) × AreWithin (length now) (map cell_of ys)

  pub rebound_one : (a : Operand) (u : Value) → slot + 1 ≤ length (map cell_of xs) → ys ≡ take (slot + 1) (set xs slot a) → cell_of a ≡ cell.Value u → Rebinds (cell.Value u ∷ [])
  rebound_one a u l is first =
      let long : slot < length xs = omega (arith, length-map xs cell_of, l) in
      let cells = ap (map cell_of) is ∙ one_set xs slot a a a long ∙ ap (λ c. take slot (map cell_of xs) ++ c ∷ []) first in
      (cells, subst (AreWithin (length now)) (sym cells) (within_one (length now) (take slot (map cell_of xs)) u left))

  pub rebound_two : (a b : Operand) (u v : Value) → slot + 2 ≤ length (map cell_of xs) → ys ≡ take (slot + 2) (set (set xs slot a) (slot + 1) b) → cell_of a ≡ cell.Value u → cell_of b ≡ cell.Value v
      → Rebinds (cell.Value u ∷ cell.Value v ∷ [])
  rebound_two a b u v l is first second =
      let long : slot + 1 < length xs = omega (arith, length-map xs cell_of, l) in
      let cells = ap (map cell_of) is ∙ two_set xs slot a b b long ∙ ap (λ c. take slot (map cell_of xs) ++ c ∷ cell_of b ∷ []) first ∙ ap (λ c. take slot (map cell_of xs) ++ cell.Value u ∷ c ∷ []) second in
      (cells, subst (AreWithin (length now)) (sym cells) (within_two (length now) (take slot (map cell_of xs)) u v left))

  pub rebound_three : (a b d : Operand) (u v w : Value) → slot + 3 ≤ length (map cell_of xs) → ys ≡ take (slot + 3) (set (set (set xs slot a) (slot + 1) b) (slot + 2) d) → cell_of a ≡ cell.Value u
      → cell_of b ≡ cell.Value v → cell_of d ≡ cell.Value w → Rebinds (cell.Value u ∷ cell.Value v ∷ cell.Value w ∷ [])
  rebound_three a b d u v w l is first second third =
      let long : slot + 2 < length xs = omega (arith, length-map xs cell_of, l) in
      let cells = ap (map cell_of) is ∙ three_set xs slot a b d long ∙ ap (λ c. take slot (map cell_of xs) ++ c ∷ cell_of b ∷ cell_of d ∷ []) first
      ∙ ap (λ c. take slot (map cell_of xs) ++ cell.Value u ∷ c ∷ cell_of d ∷ []) second ∙ ap (λ c. take slot (map cell_of xs) ++ cell.Value u ∷ cell.Value v ∷ c ∷ []) third in
      (cells, subst (AreWithin (length now)) (sym cells) (within_three (length now) (take slot (map cell_of xs)) u v w left))
