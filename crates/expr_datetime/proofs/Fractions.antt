-- The text of a fraction of a second, by its number of digits.
use Rattle.std.proofs.Common.{◌≡◌, ℕ, ◌/◌, ◌%◌, [], ◌++◌, codes, ◌∙◌}
use Rattle.expr_datetime.specs.Digits.{digits, fraction_digits}
use Rattle.expr_datetime.specs.Moments.{fraction_text, short_fraction}
use Rattle.expr_datetime.proofs.Zeros.{at_zero, unless_zero}

-- whole milliseconds, else whole microseconds, else nanoseconds
pub in_millis : (n : ℕ) → (n ≡ 0 → ⊥) → n % 1000000 ≡ 0 → codes "." ++ digits 3 (n / 1000000) ≡ fraction_text n
unfolding fraction_text
in_millis n some even = at_zero (n % 1000000) _ _ even ∙ unless_zero n [] _ some

pub in_micros : (n : ℕ) → (n ≡ 0 → ⊥) → (n % 1000000 ≡ 0 → ⊥) → n % 1000 ≡ 0 → codes "." ++ digits 6 (n / 1000) ≡ fraction_text n
unfolding fraction_text
in_micros n some odd even = at_zero (n % 1000) _ _ even ∙ unless_zero (n % 1000000) _ _ odd ∙ unless_zero n [] _ some

pub in_nanos : (n : ℕ) → (n ≡ 0 → ⊥) → (n % 1000000 ≡ 0 → ⊥) → (n % 1000 ≡ 0 → ⊥) → codes "." ++ digits 9 n ≡ fraction_text n
unfolding fraction_text
in_nanos n some odd odder = unless_zero (n % 1000) _ _ odder ∙ unless_zero (n % 1000000) _ _ odd ∙ unless_zero n [] _ some

-- up to where only zeros are left
pub in_fewest : (n : ℕ) → (n ≡ 0 → ⊥) → codes "." ++ fraction_digits 9 n ≡ short_fraction n
unfolding short_fraction
in_fewest n some = unless_zero n [] _ some
