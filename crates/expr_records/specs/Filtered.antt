-- The outcomes of lines, and the output of a filter for a stream of them.
use Rattle.std.specs.Prelude.{◌≡◌, ℕ, ◌+◌, ◌<◌, Bool, true, false, ◌&&◌, not, List, ◌++◌, length, map, flat_map, count_by, Option, IfSome, ◌⊎◌}
use Rattle.std.specs.List.{AllByRecursion}
use Rattle.std.specs.Io.KnownBytes.{Appends}
use Rattle.expr_records.specs.LineBuffers.{BufferHolds}
use Rattle.expr_records.specs.Lines.{lines_of}
use Rattle.expr_records.specs.Outcomes.{saturated_count, is_kept, is_refused, one_if, line_output}
use Rattle.expr_records.specs.declared.line_buffer.LineBuffer.{LineBuffer}
use Rattle.expr_records.specs.declared.outcome.LineOutcome.{LineOutcome}
use Rattle.expr_records.specs.declared.outcome.LineOutcome.TheVariants.{Refused}
use Rattle.expr_records.specs.declared.outcome.Refusal.{Refusal}
use Rattle.expr_records.specs.declared.outcome.Refusal.TheVariants.{TooLong, NoMemory, NotText, NotJson, NotObject, Expression, Passed, NotBoolean, NotWritable}
use Rattle.expr_records.specs.declared.record_filter.StreamEnd.{StreamEnd}
use Rattle.expr_records.specs.declared.record_filter.StreamEnd.TheVariants.{Whole, Stopped, Unread, Unwritten}
use Rattle.expr_records.specs.declared.tally.Tally.{Tally}

-- a line isn't judged: it is longer than the bound, or there is no memory for it
abbrev pub IsUnjudged : ℕ → List ℕ → Refusal → Type 0
IsUnjudged bound line TooLong = bound < length line
IsUnjudged bound line NoMemory = Unit {0}
IsUnjudged bound line NotText = ⊥
IsUnjudged bound line (NotJson error) = ⊥
IsUnjudged bound line NotObject = ⊥
IsUnjudged bound line (Expression error) = ⊥
IsUnjudged bound line (Passed passed) = ⊥
IsUnjudged bound line NotBoolean = ⊥
IsUnjudged bound line (NotWritable error) = ⊥

-- the outcome of a line: what the judge says, or the error of one that isn't judged
abbrev pub LineComesTo : ℕ → (List ℕ → LineOutcome → Type 0) → List ℕ → LineOutcome → Type 0
LineComesTo bound judged line outcome = judged line outcome ⊎ ((refusal : Refusal) × (outcome ≡ Refused refusal) × IsUnjudged bound line refusal)

-- lines with their outcomes
abbrev pub JudgedLines : Type 0
JudgedLines = List (List ℕ × LineOutcome)

abbrev pub lines_in : JudgedLines → List (List ℕ)
lines_in came = map (λ p. p.0) came

abbrev pub output_of : JudgedLines → List ℕ
output_of came = flat_map (λ p. line_output p.0 p.1) came

abbrev pub kept_in : JudgedLines → ℕ
kept_in came = count_by (λ p. is_kept p.1) came

abbrev pub refused_in : JudgedLines → ℕ
refused_in came = count_by (λ p. is_refused p.1) came

-- the lines are those of the stream, or its first ones if it wasn't read to its end
abbrev pub AreRead : StreamEnd → List (List ℕ) → List (List ℕ) → Type 0
AreRead Whole lines all = lines ≡ all
AreRead Stopped lines all = (rest : List (List ℕ)) × (lines ++ rest ≡ all)
AreRead (Unread error) lines all = (rest : List (List ℕ)) × (lines ++ rest ≡ all)
AreRead (Unwritten error) lines all = (rest : List (List ℕ)) × (lines ++ rest ≡ all)

-- only these bytes are written, unless writing fails
abbrev pub WritesOnly : StreamEnd → Option (List ℕ) → Option (List ℕ) → List ℕ → Type 0
WritesOnly Whole old new bytes = Appends old new bytes
WritesOnly Stopped old new bytes = Appends old new bytes
WritesOnly (Unread error) old new bytes = Appends old new bytes
WritesOnly (Unwritten error) old new bytes = Unit {0}

-- If errors stop the work, the first one does. Otherwise none does.
abbrev pub StopsAfter : Bool → StreamEnd → ℕ → Type 0
StopsAfter false Whole refused = Unit {0}
StopsAfter false Stopped refused = ⊥
StopsAfter false (Unread error) refused = Unit {0}
StopsAfter false (Unwritten error) refused = Unit {0}
StopsAfter true Whole refused = refused ≡ 0
StopsAfter true Stopped refused = refused ≡ 1
StopsAfter true (Unread error) refused = refused ≡ 0
StopsAfter true (Unwritten error) refused = refused ≡ 0

-- Each line that was read has an allowed outcome, and the output has what remains of them, in their order.
pub record Filters (judged : List ℕ → LineOutcome → Type 0) (bound : ℕ) (stops : Bool) (stream : Option (List ℕ)) (out_old out_new : Option (List ℕ)) (old new : Tally) (ended : StreamEnd) : Type 0 where
  pub came : JudgedLines
  pub each : AllByRecursion (λ p. LineComesTo bound judged p.0 p.1) came
  pub read : IfSome stream (λ bytes. AreRead ended (lines_in came) (lines_of bytes))
  pub output : WritesOnly ended out_old out_new (output_of came)
  pub kept : new.kept ≡ saturated_count (old.kept + kept_in came)
  pub refused : new.refused ≡ saturated_count (old.refused + refused_in came)
  pub stop : StopsAfter stops ended (refused_in came)

-- A line has an allowed outcome, and the output has what remains of it.
pub record Settles (judged : List ℕ → LineOutcome → Type 0) (line : LineBuffer) (stops : Bool) (out_old out_new : Option (List ℕ)) (old new : Tally) (goes_on : Bool) : Type 0 where
  pub outcome : LineOutcome
  pub comes : (bytes : List ℕ) → BufferHolds line bytes → LineComesTo line.bound judged bytes outcome
  pub output : (bytes : List ℕ) → BufferHolds line bytes → Appends out_old out_new (line_output bytes outcome)
  pub kept : new.kept ≡ saturated_count (old.kept + one_if (is_kept outcome))
  pub refused : new.refused ≡ saturated_count (old.refused + one_if (is_refused outcome))
  pub course : goes_on ≡ not (stops && is_refused outcome)
