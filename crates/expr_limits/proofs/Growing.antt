-- What is read of a pattern weighs no less as more is read.
use Rattle.std.proofs.Common.{◌≡◌, ℕ, zero, suc, length, get_or, ◌*◌, ◌≤◌, ◌<◌, Bool, true, false, List, [], ◌∷◌, ◌⊎◌, inl, inr, if◌then◌else◌, ◌==◌, max, codes, take, drop, refl, sym, ap, ◌∙◌, subst, le_trans, le_refl, lt_of_lt_of_le, le-mul_of_pos_right, mul_comm, take-append-drop, arith}
use Rattle.std.specs.List.{fold}
use Rattle.std.proofs.lemmas.List.Sums.{fold-append}
use Rattle.expr_limits.specs.Patterns.{empty_sketch, with_new_part, is_one_of, escape_weight, byte_weight, with_longer_part, pattern_weight, read, read_class, read_in, read_outside, read_times, with_repeated_part, sketch_of, with_count_digit}
use Rattle.expr_limits.specs.declared.patterns.PatternState.{PatternState}
use Rattle.expr_limits.specs.declared.patterns.PatternState.TheVariants.{Outside, Escaped, Class, ClassEscaped, Times}
use Rattle.expr_limits.specs.declared.patterns.Sketch.{Sketch}

-- it weighs no less, its groups are repeated no less often, and its last part weighs no more than all
abbrev pub Grown : Sketch → Sketch → Type 0
Grown s t = (s.weight ≤ t.weight) × (s.factor ≤ t.factor) × (s.last ≤ s.weight → t.last ≤ t.weight)

either : (c : Bool) (s x y : Sketch) → Grown s x → Grown s y → Grown s (if c then x else y)
either true s x y p q = p
either false s x y p q = q

begun_grows : (n k : ℕ) (place : PatternState) (s : Sketch) → k ≤ n → Grown s (with_new_part n k place s)
begun_grows n k place s small = (omega arith, le_refl s.factor, λ h. omega arith)

longer_grows : (n k : ℕ) (place : PatternState) (s : Sketch) → k ≤ n → Grown s (with_longer_part n k place s)
longer_grows n k place s small = (omega arith, le_refl s.factor, λ h. omega arith)

times_grow : (c : Bool) (f n : ℕ) → f ≤ (if c then f * max n 1 else f)
times_grow true f n = le-mul_of_pos_right f (omega arith)
times_grow false f n = le_refl f

repeated_grows : (n : ℕ) (s : Sketch) → Grown s (with_repeated_part n s)
repeated_grows n s = (omega arith, times_grow (s.last == 0) s.factor n, λ h. omega arith)

-- one byte
outside_grows : (b : ℕ) (s : Sketch) → Grown s (read_outside b s)
outside_grows b s =
    let at5 = if is_one_of (codes ")") b then with_new_part 4 0 Outside s else with_new_part (byte_weight b) (byte_weight b) Outside s in
    let at4 = if is_one_of (codes "*+?") b then with_longer_part 4 0 Outside s else at5 in
    let at3 = if is_one_of (codes "{") b then with_longer_part 4 0 (Times 0 0) s else at4 in
    let at2 = if is_one_of (codes "[") b then with_new_part 4 4 Class s else at3 in
    either (is_one_of (codes "\\") b) s (with_longer_part 4 0 Escaped s) at2 (longer_grows 4 0 Escaped s (omega arith)) (
    either (is_one_of (codes "[") b) s (with_new_part 4 4 Class s) at3 (begun_grows 4 4 Class s (le_refl 4)) (
    either (is_one_of (codes "{") b) s (with_longer_part 4 0 (Times 0 0) s) at4 (longer_grows 4 0 (Times 0 0) s (omega arith)) (
    either (is_one_of (codes "*+?") b) s (with_longer_part 4 0 Outside s) at5 (longer_grows 4 0 Outside s (omega arith)) (
    either (is_one_of (codes ")") b) s (with_new_part 4 0 Outside s) (with_new_part (byte_weight b) (byte_weight b) Outside s) (begun_grows 4 0 Outside s (omega arith)) (
    begun_grows (byte_weight b) (byte_weight b) Outside s (le_refl (byte_weight b)))))))

class_grows : (b : ℕ) (s : Sketch) → Grown s (read_class b s)
class_grows b s =
    let at2 = if is_one_of (codes "]") b then with_longer_part 4 4 Outside s else with_longer_part (byte_weight b) (byte_weight b) Class s in
    either (is_one_of (codes "\\") b) s (with_longer_part 4 4 ClassEscaped s) at2 (longer_grows 4 4 ClassEscaped s (le_refl 4)) (
    either (is_one_of (codes "]") b) s (with_longer_part 4 4 Outside s) (with_longer_part (byte_weight b) (byte_weight b) Class s) (longer_grows 4 4 Outside s (le_refl 4)) (
    longer_grows (byte_weight b) (byte_weight b) Class s (le_refl (byte_weight b))))

then_grows : (s t u : Sketch) → Grown s t → Grown t u → Grown s u
then_grows s t u p q = (le_trans p.0 q.0, le_trans p.1 q.1, λ h. q.2 (p.2 h))

times_grows : (least number b : ℕ) (s : Sketch) → Grown s (read_times least number b s)
times_grows least number b s =
    let at4 = with_longer_part 4 0 Outside s in
    let again = with_repeated_part (max least number) at4 in
    let at3 = if is_one_of (codes "}") b then again else at4 in
    let at2 = if is_one_of (codes ",") b then with_longer_part 4 0 (Times number 0) s else at3 in
    let at1 = with_longer_part 4 0 (Times least (with_count_digit number b)) s in
    let passes = longer_grows 4 0 Outside s (omega arith) in
    either (is_one_of (codes "0123456789") b) s at1 at2 (longer_grows 4 0 (Times least (with_count_digit number b)) s (omega arith)) (
    either (is_one_of (codes ",") b) s (with_longer_part 4 0 (Times number 0) s) at3 (longer_grows 4 0 (Times number 0) s (omega arith)) (
    either (is_one_of (codes "}") b) s again at4 (then_grows s at4 again passes (repeated_grows (max least number) at4)) passes))

in_grows : (p : PatternState) (b : ℕ) (s : Sketch) → Grown s (read_in p b s)
in_grows Outside b s = outside_grows b s
in_grows Escaped b s = begun_grows (escape_weight b) (escape_weight b) Outside s (le_refl (escape_weight b))
in_grows Class b s = class_grows b s
in_grows ClassEscaped b s = longer_grows (escape_weight b) (escape_weight b) Class s (le_refl (escape_weight b))
in_grows (Times least number) b s = times_grows least number b s

pub read_grows : (s : Sketch) (b : ℕ) → Grown s (read s b)
read_grows s b = in_grows s.place b s

-- many bytes
grows : (bs : List ℕ) (s : Sketch) → Grown s (fold read s bs)
grows [] s = (le_refl s.weight, le_refl s.factor, λ h. h)
grows (b ∷ bs) s = then_grows s (read s b) (fold read (read s b) bs) (read_grows s b) (grows bs (read s b))

-- what is read of the front of a pattern grows to what is read of all
within_all : (bs : List ℕ) (n : ℕ) (s : Sketch) → s ≡ sketch_of (take n bs) → Grown s (sketch_of bs)
within_all bs n s e =
    let whole : sketch_of bs ≡ fold read (sketch_of (take n bs)) (drop n bs) = ap sketch_of (sym (take-append-drop n bs)) ∙ fold-append read empty_sketch (take n bs) (drop n bs) in
    subst (λ t. Grown s t) (sym whole) (subst (λ x. Grown s (fold read x (drop n bs))) e (grows (drop n bs) s))

-- if a prefix weighs more than the room, or repeats its groups more often, the whole weighs more
pub heavier : (bs : List ℕ) (n room : ℕ) (s : Sketch) → s ≡ sketch_of (take n bs) → (room < s.weight) ⊎ (room < s.factor) → room < pattern_weight bs
heavier bs n room s e (inl h) =
    let g = within_all bs n s e in
    let b = within_all bs 0 empty_sketch refl in
    lt_of_lt_of_le (lt_of_lt_of_le h g.0) (le-mul_of_pos_right (sketch_of bs).weight b.1)
heavier bs n room s e (inr h) =
    let g = within_all bs n s e in
    let b = within_all bs 0 empty_sketch refl in
    let one : 0 < (sketch_of bs).weight = lt_of_lt_of_le (omega arith) b.0 in
    subst (λ m. room < m) (mul_comm (sketch_of bs).factor (sketch_of bs).weight) (lt_of_lt_of_le (lt_of_lt_of_le h g.1) (le-mul_of_pos_right (sketch_of bs).factor one))

-- what is read of one byte more
pub read_one : (n : ℕ) (bs : List ℕ) (s : Sketch) → n < length bs → fold read s (take (suc n) bs) ≡ read (fold read s (take n bs)) (get_or bs n 0)
read_one n [] s l = absurd (omega (arith, l))
read_one zero (b ∷ bs) s l = refl
read_one (suc n) (b ∷ bs) s l = read_one n bs (read s b) (omega (arith, l))
