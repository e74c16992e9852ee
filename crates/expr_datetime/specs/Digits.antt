-- Decimal digits.
use Rattle.std.specs.Prelude.{ℕ, ℤ, pos, zero, suc, ◌/◌, ◌%◌, ◌^◌, ◌==◌, int_lt, List, [], ◌++◌, codes, if◌then◌else◌}
use Rattle.std.specs.Fmt.{decimal}

-- `-` for a number below zero, otherwise nothing
abbrev pub minus : ℤ → List ℕ
minus n = if int_lt n (pos 0) then codes "-" else []

-- the last n decimal digits of a number
unfoldable pub digits : ℕ → ℕ → List ℕ
digits zero number = []
digits (suc n) number = decimal (number / 10 ^ n) ++ digits n (number % 10 ^ n)

-- the decimals of parts / 10^n, without trailing zeros
abbrev pub fraction_digits : ℕ → ℕ → List ℕ
fraction_digits zero parts = []
fraction_digits (suc n) parts = if parts == 0 then [] else decimal (parts / 10 ^ n) ++ fraction_digits n (parts % 10 ^ n)
