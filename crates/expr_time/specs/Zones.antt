-- Zones by name, and what the built-ins `timezone` and `now` answer.
use Rattle.std.specs.Prelude.{ℕ, List, Option, None, Some, Ok, Err, bytes_eq, codes, if◌then◌else◌}
use Rattle.expr_value.specs.Answers.{Answer}
use Rattle.expr_error.specs.ErrorKind.{evaluation}
use Rattle.expr_datetime.specs.declared.moment.DateTimeValue.{DateTimeValue}
use Rattle.expr_datetime.specs.declared.moment.MomentZone.TheVariants.{Named}
use Rattle.expr_value.specs.declared.value.Value as value
use Rattle.expr_value.specs.declared.value.Value.{Value}
use Rattle.expr_datetime.specs.declared.zone.TimezoneValue.{TimezoneValue}
use Rattle.expr_arguments.specs.Arguments.{answer_on, without_arguments, one_text}
use Rattle.expr_datetime.specs.ShiftedMoments.{moment_in}
use Rattle.expr_datetime.specs.Times.{utc}

-- the zone of a name: UTC, or one that was added
abbrev pub zone_named : (List ℕ → Option TimezoneValue) → List ℕ → Option TimezoneValue
zone_named zones name = if bytes_eq name (codes "UTC") then Some utc else zones name

-- what `timezone` answers
abbrev pub timezone_answer : (List ℕ → Option TimezoneValue) → List Value → Answer
timezone_answer zones arguments = answer_on (one_text arguments) (λ name. answer_on (zone_named zones name) (λ zone. Ok (value.Timezone zone)))

-- what `now` answers where a moment is set, and where none is
abbrev pub now_answer : Option DateTimeValue → List Value → Answer
now_answer None arguments = Err evaluation
now_answer (Some t) arguments = without_arguments arguments (value.DateTime (moment_in t (Named utc)))
