-- What counted runs say about plain runs.
use Rattle.std.specs.Prelude.{ℕ, ◌≤◌, List}
use Rattle.expr_code.specs.Instructions.{Op}
use Rattle.expr_meaning.specs.CodeRuns.{CodeAnswers}
use Rattle.expr_limits.specs.Sizes.{depth}
use Rattle.expr_meaning.specs.World.{World}
use Rattle.expr_value.specs.Answers.{Answer}
use Rattle.expr_value.specs.declared.value.Value.{Value}
use Rattle.expr_limits.specs.Counting.{ending_of, gives}
use Rattle.expr_meaning.specs.Counts.{CodeCounts, Costs}
use Rattle.expr_limits.specs.Rooms.{Room, rooms, unlimited, limited}

-- a counted run with a result is a run of the code, whatever the room
abbrev pub CountedRunsAreRuns : World → List (List Op) → Type 0
CountedRunsAreRuns world blocks = (costs : Costs) (room left : Room) (answer : Answer) → CodeCounts rooms costs world blocks room (ending_of answer left) → CodeAnswers world blocks answer

-- each run of the code is a counted run within limits that are large enough, and without limits
abbrev pub RunsHaveCounts : World → List (List Op) → Type 0
RunsHaveCounts world blocks =
    (costs : Costs) (answer : Answer) → CodeAnswers world blocks answer
    → ((need : ℕ) × ((steps size deepest : ℕ) → need ≤ steps → need ≤ size → need ≤ deepest → (left : Room) × CodeCounts rooms costs world blocks (limited steps size deepest) (ending_of answer left)))
    × CodeCounts rooms costs world blocks unlimited (ending_of answer unlimited)

-- the result of a counted run is never deeper than the limit
abbrev pub AnswersStayWithinDepth : World → List (List Op) → Type 0
AnswersStayWithinDepth world blocks =
    (costs : Costs) (steps size deepest : ℕ) (value : Value) (left : Room) → CodeCounts rooms costs world blocks (limited steps size deepest) (gives value left) → depth value ≤ deepest
