-- Durations in print, as Go's `time.Duration.String` has them.
use Rattle.std.specs.Prelude.{ℕ, ℤ, ◌/◌, ◌%◌, ◌^◌, ◌==◌, nat_lt, unsigned_abs, List, [], ◌∷◌, ◌++◌, codes, if◌then◌else◌}
use Rattle.std.specs.Fmt.{decimal}
use Rattle.expr_datetime.specs.Digits.{fraction_digits, minus}

-- parts / 10^n, with a fraction without trailing zeros
abbrev pub in_units : ℕ → ℕ → List ℕ
in_units n parts = decimal (parts / 10 ^ n) ++ (if parts % 10 ^ n == 0 then [] else codes "." ++ fraction_digits n (parts % 10 ^ n))

-- hours unless they are 0, minutes unless they and the hours are 0, and seconds
abbrev pub clock_text : ℕ → List ℕ
clock_text parts =
    let hours = parts / 3600000000000 in
    let minutes = parts / 60000000000 % 60 in
    (if hours == 0 then [] else decimal hours ++ codes "h") ++ (if parts / 60000000000 == 0 then [] else decimal minutes ++ codes "m")
    ++ in_units 9 (parts % 60000000000) ++ codes "s"

-- the unit `µs` in UTF-8, with U+00B5
abbrev pub micro : List ℕ
micro = 194 ∷ 181 ∷ codes "s"

-- hours, minutes and seconds from one second on, otherwise the greatest unit of which there is at least one
abbrev pub length_text : ℕ → List ℕ
length_text parts =
    if parts == 0 then codes "0s" else (if nat_lt parts 1000 then decimal parts ++ codes "ns" else (if nat_lt parts 1000000 then in_units 3 parts ++ micro
    else (if nat_lt parts 1000000000 then in_units 6 parts ++ codes "ms" else clock_text parts)))

-- nanoseconds as a duration
abbrev pub duration_text : ℤ → List ℕ
duration_text n = minus n ++ length_text (unsigned_abs n)
