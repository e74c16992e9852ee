-- What a clock shows is jiff's date and time of day.
use Rattle.std.proofs.Common.{◌≡◌, ◌+◌, ◌%◌, ◌/◌, sym, ap, ◌∙◌, arith, unsigned_abs}
use Rattle.std.specs.Int.{int_div_euclid, int_rem_euclid}
use Rattle.jiff_core.proofs.SignedLemmas.{signed_arith}
unfoldable use Rattle.jiff_core.specs.Calendar.{weekday_number}
use Rattle.jiff.specs.Words.{time_nanos, weekday_of}
unfoldable use Rattle.jiff.specs.Words.{civil_nanos}
use Rattle.jiff.specs.Types.{DateTime, Time}
use Rattle.jiff.proofs.Family.{civil_nanos-parts, epoch_day-civil_nanos, time_nanos_bound}
use Rattle.expr_datetime.specs.Calendar.{clock_of, date_shown, day_length, day_of, plain_clock, plain_day, time_shown}
use Rattle.expr_datetime.proofs.Days.{day_of-epoch_day}

pub date_is_shown : (dt : DateTime) → plain_day dt.date ≡ date_shown (civil_nanos dt)
date_is_shown dt = sym (day_of-epoch_day dt.date) ∙ ap day_of (epoch_day-civil_nanos dt)

nanos_same : (dt : DateTime) → time_nanos dt.time ≡ unsigned_abs (int_rem_euclid (civil_nanos dt) day_length)
nanos_same dt = omega (arith, signed_arith, civil_nanos-parts dt, time_nanos_bound dt.time)

clock_same : (t : Time) → plain_clock t ≡ clock_of (time_nanos t)
clock_same t =
    let hour : t.hour ≡ time_nanos t / 3600000000000 = omega (arith, t.hour_in, t.minute_in, t.second_in, t.subsec_in) in
    let minute : t.minute ≡ time_nanos t / 60000000000 % 60 = omega (arith, t.hour_in, t.minute_in, t.second_in, t.subsec_in) in
    let second : t.second ≡ time_nanos t / 1000000000 % 60 = omega (arith, t.hour_in, t.minute_in, t.second_in, t.subsec_in) in
    let nanosecond : t.subsec_nanosecond ≡ time_nanos t % 1000000000 = omega (arith, t.hour_in, t.minute_in, t.second_in, t.subsec_in) in
    λ i. record { hour = hour i; minute = minute i; second = second i; nanosecond = nanosecond i }

pub time_is_shown : (dt : DateTime) → plain_clock dt.time ≡ time_shown (civil_nanos dt)
time_is_shown dt = clock_same dt.time ∙ ap clock_of (nanos_same dt)

-- its day of the week
pub weekday_is_shown : (dt : DateTime) → (weekday_of dt.date + 1) % 7 ≡ (weekday_number (int_div_euclid (civil_nanos dt) day_length) + 1) % 7
weekday_is_shown dt = ap (λ n. (weekday_number n + 1) % 7) (epoch_day-civil_nanos dt)
