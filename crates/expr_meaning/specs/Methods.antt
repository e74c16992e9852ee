-- The methods of values.
use Rattle.std.specs.Prelude.{◌≡◌, ◌≢◌, ◌⊎◌, ℕ, ℤ, List, Err}
use Rattle.expr_time.specs.LengthMethods.{method_answer, name_of as method_name}
use Rattle.expr_time.specs.declared.length_method.DurationMethod.{DurationMethod}
use Rattle.expr_time.specs.Moments.{AnsweredAt, moment_method, name_answer, name_method}
use Rattle.expr_time.specs.declared.moments.DateTimeMethod.{DateTimeMethod}
use Rattle.expr_time.specs.declared.moments.TextMethod.{TextMethod}
use Rattle.expr_value.specs.Answers.{Answer}
use Rattle.expr_error.specs.ErrorKind.{evaluation}
use Rattle.expr_datetime.specs.declared.moment.DateTimeValue.{DateTimeValue}
use Rattle.expr_value.specs.declared.value.Value.{Value, out-Value}
use Rattle.expr_value.specs.declared.value.Value.TheOpen.{Value-F}

-- what the method of this name may return for a duration, or an error if there is no such method
abbrev pub AllowsDurationMethod : List ℕ → ℤ → List Value → Answer → Type 0
AllowsDurationMethod key n vs answer =
    ((m : DurationMethod) × (method_name m ≡ key) × (answer ≡ method_answer m n vs)) ⊎ (((m : DurationMethod) → method_name m ≢ key) × (answer ≡ Err evaluation))

-- what it may return for a DateTime
abbrev pub AllowsMomentMethod : List ℕ → DateTimeValue → List Value → Answer → Type 0
AllowsMomentMethod key t vs answer =
    ((m : DateTimeMethod) × (moment_method m ≡ key) × AnsweredAt m t vs answer) ⊎ (((m : DateTimeMethod) → moment_method m ≢ key) × (answer ≡ Err evaluation))

-- and for a zone, a month or a day of the week
abbrev pub AllowsNameMethod : List ℕ → Value → List Value → Answer → Type 0
AllowsNameMethod key v vs answer =
    ((m : TextMethod) × (name_method m ≡ key) × (answer ≡ name_answer m v vs)) ⊎ (((m : TextMethod) → name_method m ≢ key) × (answer ≡ Err evaluation))

abbrev pub AllowsMethodLayer : List ℕ → Value → Value-F Value → List Value → Answer → Type 0
AllowsMethodLayer key v (Value-F.Duration n) vs answer = AllowsDurationMethod key n vs answer
AllowsMethodLayer key v (Value-F.DateTime t) vs answer = AllowsMomentMethod key t vs answer
AllowsMethodLayer key v (Value-F.Timezone z) vs answer = AllowsNameMethod key v vs answer
AllowsMethodLayer key v (Value-F.Month n) vs answer = AllowsNameMethod key v vs answer
AllowsMethodLayer key v (Value-F.Weekday n) vs answer = AllowsNameMethod key v vs answer
AllowsMethodLayer key v layer vs answer = answer ≡ Err evaluation

-- what the method of this name may return for a value and these arguments; values of other kinds have no
-- methods
abbrev pub AllowsMethod : List ℕ → Value → List Value → Answer → Type 0
AllowsMethod key v vs answer = AllowsMethodLayer key v (out-Value v) vs answer
