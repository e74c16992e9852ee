-- Fields of a DateTime: local date and time of day, and the numbers of its instant.
use Rattle.std.specs.Prelude.{ℕ, ℤ, pos, neg_ℤ, ◌+◌, ◌%◌, ◌-ℤ◌, ◌&&◌, int_le, List, Ok, Err, codes, if◌then◌else◌}
use Rattle.std.specs.Int.{int_div_euclid}
use Rattle.std.specs.Ordering.{int_eq}
use Rattle.expr_datetime.specs.Calendar.{Day, Clock, date_shown, day_length, time_shown}
use Rattle.jiff_core.specs.Calendar.{day_of_year}
unfoldable use Rattle.jiff_core.specs.Calendar.{weekday_number}
use Rattle.expr_value.specs.Answers.{Answer}
use Rattle.expr_error.specs.ErrorKind.{evaluation}
use Rattle.expr_datetime.specs.Times.{instant, local_nanos}
use Rattle.expr_datetime.specs.declared.moment.DateTimeValue.{DateTimeValue}
use Rattle.expr_value.specs.declared.value.Value as value
use Rattle.expr_value.specs.declared.value.Value.{Value}
use Rattle.expr_moment.specs.declared.fields.DateTimeField.{DateTimeField}
use Rattle.expr_moment.specs.declared.fields.DateTimeField.TheVariants as is

-- the local date and the local time of day
abbrev pub date_at : DateTimeValue → Day
date_at t = date_shown (local_nanos t)

abbrev pub time_at : DateTimeValue → Clock
time_at t = time_shown (local_nanos t)

-- the day of the week, where 0 is Sunday
abbrev pub weekday_at : DateTimeValue → ℕ
weekday_at t = (weekday_number (int_div_euclid (local_nanos t) day_length) + 1) % 7

-- the day of the year, from 1
abbrev pub year_day_at : DateTimeValue → ℕ
year_day_at t = day_of_year (date_at t).year (date_at t).month (date_at t).day

-- the instant 0001-01-01T00:00:00Z
abbrev pub zero_instant : ℤ
zero_instant = neg_ℤ (pos 62_135_596_800_000_000_000)

-- a number that fits in 64 bits, or else 0
abbrev pub within_64 : ℤ → ℤ
within_64 n = if int_le (neg_ℤ (pos 9223372036854775808)) n && int_le n (pos 9223372036854775807) then n else pos 0

-- the nanoseconds between two DateTimes, within 64 bits
abbrev pub between : DateTimeValue → DateTimeValue → Answer
between t u =
    let n = instant t -ℤ instant u in
    if int_le (neg_ℤ (pos 9223372036854775808)) n && int_le n (pos 9223372036854775807) then Ok (value.Duration n) else Err evaluation

-- a field of a DateTime. The instant is in whole units, rounded down.
abbrev pub field_value : DateTimeField → DateTimeValue → Value
field_value is.Year t = value.Integer (date_at t).year
field_value is.Month t = value.Month (date_at t).month
field_value is.Day t = value.Integer (pos (date_at t).day)
field_value is.Hour t = value.Integer (pos (time_at t).hour)
field_value is.Minute t = value.Integer (pos (time_at t).minute)
field_value is.Second t = value.Integer (pos (time_at t).second)
field_value is.Nanosecond t = value.Integer (pos (time_at t).nanosecond)
field_value is.YearDay t = value.Integer (pos (year_day_at t))
field_value is.Weekday t = value.Weekday (weekday_at t)
field_value is.Unix t = value.Integer (int_div_euclid (instant t) (pos 1_000_000_000))
field_value is.UnixMilli t = value.Integer (int_div_euclid (instant t) (pos 1_000_000))
field_value is.UnixMicro t = value.Integer (int_div_euclid (instant t) (pos 1_000))
field_value is.UnixNano t = value.Integer (within_64 (instant t))
field_value is.IsZero t = value.Bool (int_eq (instant t) zero_instant)

-- the name of a field
abbrev pub field_name : DateTimeField → List ℕ
field_name is.Year = codes "Year"
field_name is.Month = codes "Month"
field_name is.Day = codes "Day"
field_name is.Hour = codes "Hour"
field_name is.Minute = codes "Minute"
field_name is.Second = codes "Second"
field_name is.Nanosecond = codes "Nanosecond"
field_name is.YearDay = codes "YearDay"
field_name is.Weekday = codes "Weekday"
field_name is.Unix = codes "Unix"
field_name is.UnixMilli = codes "UnixMilli"
field_name is.UnixMicro = codes "UnixMicro"
field_name is.UnixNano = codes "UnixNano"
field_name is.IsZero = codes "IsZero"
