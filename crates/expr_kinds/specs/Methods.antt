-- The kinds that methods take and return, as tables.
use Rattle.std.specs.Prelude.{List, [], ◌∷◌}
use Rattle.expr_moment.specs.declared.fields.DateTimeField.{DateTimeField}
use Rattle.expr_moment.specs.declared.fields.DateTimeField.TheVariants.{IsZero, Month, Weekday}
use Rattle.expr_time.specs.declared.length_method.DurationMethod.{DurationMethod}
use Rattle.expr_time.specs.declared.length_method.DurationMethod.TheVariants as duration_method
use Rattle.expr_time.specs.declared.moments.DateTimeMethod.{DateTimeMethod}
use Rattle.expr_time.specs.declared.moments.DateTimeMethod.TheVariants as moment
use Rattle.expr_time.specs.declared.moments.TextMethod.{TextMethod}
use Rattle.expr_time.specs.declared.moments.TextMethod.TheVariants as named
use Rattle.expr_schema.specs.Kinds.{Kind, bool, integer, string, duration, month, weekday, datetime, timezone, total, failing}
use Rattle.expr_schema.specs.Scopes.{Signature}

-- a method with these arguments, which never fails, and one that may
abbrev pub method : List Kind → Kind → Signature
method arguments gives = record { arguments = arguments; gives = gives; effect = total }

abbrev pub failing_method : List Kind → Kind → Signature
failing_method arguments gives = record { arguments = arguments; gives = gives; effect = failing }

-- the methods of durations
abbrev pub of_duration : DurationMethod → Signature
of_duration duration_method.Abs = method [] duration
of_duration duration_method.Round = method (duration ∷ []) duration
of_duration duration_method.Truncate = method (duration ∷ []) duration
of_duration duration_method.Milliseconds = method [] integer
of_duration duration_method.Microseconds = method [] integer
of_duration duration_method.Nanoseconds = method [] integer
of_duration duration_method.String = method [] string

-- the kind of a field of a DateTime
abbrev pub kind_of_field : DateTimeField → Kind
kind_of_field Month = month
kind_of_field Weekday = weekday
kind_of_field IsZero = bool
kind_of_field field = integer

-- the methods of DateTimes
abbrev pub of_moment : DateTimeMethod → Signature
of_moment (moment.Field field) = method [] (kind_of_field field)
of_moment moment.String = method [] string
of_moment moment.Location = failing_method [] timezone
of_moment moment.Utc = method [] datetime
of_moment moment.In = method (timezone ∷ []) datetime
of_moment moment.Add = failing_method (duration ∷ []) datetime
of_moment moment.Sub = failing_method (datetime ∷ []) duration
of_moment moment.Round = failing_method (duration ∷ []) datetime
of_moment moment.Truncate = failing_method (duration ∷ []) datetime
of_moment moment.After = method (datetime ∷ []) bool
of_moment moment.Before = method (datetime ∷ []) bool
of_moment moment.Equal = method (datetime ∷ []) bool
of_moment moment.Compare = method (datetime ∷ []) integer
of_moment moment.AddDate = failing_method (integer ∷ integer ∷ integer ∷ []) datetime
of_moment moment.Format = method (string ∷ []) string

-- the methods of time zones, months and weekdays
abbrev pub of_name : TextMethod → Signature
of_name named.String = method [] string
