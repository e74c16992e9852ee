-- The outcomes of a line for an expression.
use Rattle.std.specs.Prelude.{◌≡◌, ◌≢◌, ℕ, Bool, true, false, not, List, Option, None, Some, option_map, ◌⊎◌}
use Rattle.expr_context.specs.Contexts.{NamedValues}
use Rattle.expr_encoding.specs.Writing.{json_text}
use Rattle.expr_limits.specs.Counting.{Ending, gives, refuses, stops}
use Rattle.expr_limits.specs.Rooms.{Room}
use Rattle.expr_records.specs.Lines.{is_blank_line, line_text}
use Rattle.expr_records.specs.Records.{IsRecord, MayRefuseText}
use Rattle.expr_records.specs.declared.outcome.LineOutcome.{LineOutcome}
use Rattle.expr_records.specs.declared.outcome.LineOutcome.TheVariants.{Blank, Dropped, Kept, Counted, Rewritten, Refused}
use Rattle.expr_records.specs.declared.outcome.PassedLimit.{PassedLimit}
use Rattle.expr_records.specs.declared.outcome.Refusal.{Refusal}
use Rattle.expr_records.specs.declared.outcome.Refusal.TheVariants.{TooLong, NoMemory, NotText, NotJson, NotObject, Expression, Passed, NotBoolean, NotWritable}
use Rattle.expr_records.specs.declared.query.Purpose.{Purpose}
use Rattle.expr_records.specs.declared.query.Purpose.TheVariants.{Keep, Count, Rewrite}
use Rattle.expr_error.specs.ErrorKind.{error_kind, memory}
use Rattle.expr_value.specs.Values.{truth_of}
use Rattle.expr_error.specs.declared.error.Error.{Error}
use Rattle.expr_value.specs.declared.value.Value.{Value}

-- whether two booleans are equal
abbrev pub same : Bool → Bool → Bool
same true truth = truth
same false truth = not truth

-- whether a value is the boolean that is sought, if it is a boolean
abbrev pub is_sought : Bool → Value → Option Bool
is_sought wanted v = option_map (same wanted) (truth_of v)

-- the outcome of a record that is selected, isn't, or can't be decided
abbrev pub outcome_by : LineOutcome → Option Bool → LineOutcome
outcome_by found (Some true) = found
outcome_by found (Some false) = Dropped
outcome_by found None = Refused NotBoolean

-- the value has no JSON
abbrev pub IsUnwritable : Value → Refusal → Type 0
IsUnwritable v TooLong = ⊥
IsUnwritable v NoMemory = ⊥
IsUnwritable v NotText = ⊥
IsUnwritable v (NotJson error) = ⊥
IsUnwritable v NotObject = ⊥
IsUnwritable v (Expression error) = ⊥
IsUnwritable v (Passed passed) = ⊥
IsUnwritable v NotBoolean = ⊥
IsUnwritable v (NotWritable error) = error_kind error ≢ memory → json_text v ≡ None

-- the JSON of the value, or the error
abbrev pub IsRewritten : Value → LineOutcome → Type 0
IsRewritten v Blank = ⊥
IsRewritten v Dropped = ⊥
IsRewritten v Kept = ⊥
IsRewritten v Counted = ⊥
IsRewritten v (Rewritten text) = json_text v ≡ Some text
IsRewritten v (Refused refusal) = IsUnwritable v refusal

-- the outcome of a record, by the value of the expression
abbrev pub IsOutcomeOf : Purpose → Value → LineOutcome → Type 0
IsOutcomeOf (Keep wanted) v outcome = outcome ≡ outcome_by Kept (is_sought wanted v)
IsOutcomeOf (Count wanted) v outcome = outcome ≡ outcome_by Counted (is_sought wanted v)
IsOutcomeOf Rewrite v outcome = IsRewritten v outcome

-- the outcome of a record: by the value with which its run may end, by its error, or by the limit at which it stops
abbrev pub ComesOfRecord : Purpose → (Ending Room → Type 0) → LineOutcome → Type 0
ComesOfRecord purpose ends outcome =
    ((v : Value) × (left : Room) × ends (gives v left) × IsOutcomeOf purpose v outcome)
    ⊎ (((error : Error) × (outcome ≡ Refused (Expression error)) × (error_kind error ≢ memory → ends (refuses (error_kind error))))
    ⊎ ((passed : PassedLimit) × (outcome ≡ Refused (Passed passed)) × ends (stops passed.limit)))

-- the outcome of a string: that of its record, or the error of one that is no record
abbrev pub ComesOfText : Purpose → (NamedValues → Ending Room → Type 0) → List ℕ → LineOutcome → Type 0
ComesOfText purpose ends text outcome =
    ((members : NamedValues) × IsRecord text members × ComesOfRecord purpose (ends members) outcome)
    ⊎ ((refusal : Refusal) × (outcome ≡ Refused refusal) × MayRefuseText text refusal)

-- the outcome of a line, given whether it is blank
abbrev pub ComesOfLine : Bool → Purpose → (NamedValues → Ending Room → Type 0) → List ℕ → LineOutcome → Type 0
ComesOfLine true purpose ends text outcome = outcome ≡ Blank
ComesOfLine false purpose ends text outcome = ComesOfText purpose ends text outcome

-- the outcomes of a line, given how the run for a record may end
abbrev pub MayCome : Purpose → (NamedValues → Ending Room → Type 0) → List ℕ → LineOutcome → Type 0
MayCome purpose ends line outcome = ComesOfLine (is_blank_line line) purpose ends (line_text line) outcome
