-- Calls within limits: their results, and where they stop.
use Rattle.std.specs.Prelude.{◌≡◌, ◌≢◌, ◌≤◌, ℕ, IfOk, List, Result, Ok, Err, ◌⊎◌}
use Rattle.std.specs.Str.{IsCharBoundary}
use Rattle.expr_code.specs.Codes.{IsCode}
use Rattle.expr_code.specs.Instructions.{Op}
use Rattle.expr_meaning.specs.CodeRuns.{CodeAnswers}
use Rattle.expr_costs.specs.Costs.{costs_in}
use Rattle.expr_limits.specs.Outcomes.{OnAnswer, ReturnsOutcome}
use Rattle.expr_limits.specs.Counting.{Ending, gives, refuses, stops}
use Rattle.expr_meaning.specs.Counts.{CodeCounts}
use Rattle.expr_limits.specs.Rooms.{Room, rooms, limited}
use Rattle.expr_limits.specs.declared.limit.Limit.TheVariants.{Nesting, Patterns}
use Rattle.expr_limits.specs.declared.limits.Limits.{Limits}
use Rattle.expr_limits.specs.declared.outcome.Outcome.{Outcome}
use Rattle.expr_limits.specs.declared.outcome.Outcome.TheVariants.{Answered, Stopped}
use Rattle.expr_meaning.specs.Refusals.{NeverRefusesWith}
use Rattle.expr_meaning.specs.World.{World}
use Rattle.expr_limits.specs.Sizes.{depth as depth_of}
use Rattle.expr_syntax.specs.Bounds.{IsHeavier, IsHigher, IsLight}
use Rattle.expr_syntax.specs.Texts.{IsPlaced, IsProgramWithin}
use Rattle.expr_tree.specs.Term.{Block}
use Rattle.expr_error.specs.ErrorKind.{RefusesNoPattern, error_kind, memory, pattern as bad_pattern}
use Rattle.expr_error.specs.declared.error.Error.{Error}
use Rattle.expr_error.specs.declared.error.Error.TheVariants.{PestError}
use Rattle.expr_value.specs.declared.value.Value.{Value}
use Rattle.expr_syntax.specs.Refused.{IsRefused}
use Rattle.expr_eval.specs.Texts.{IsOwnFault, MayAnswer}
use Rattle.expr_machine.specs.Given.{MayGive}

-- the room of a run within limits
abbrev pub run_room : Limits → Room
run_room limits = limited limits.steps limits.size limits.depth

-- the endings of a run of code that counts within limits, as docs/LIMITS.md says in words
abbrev pub CodeEnds : World → List (List Op) → Limits → Ending Room → Type 0
CodeEnds world blocks limits = CodeCounts rooms (costs_in world.host) world blocks (run_room limits)

-- the endings of the code of an expression's program, if its tree and its literal patterns are within the
-- limits
abbrev pub TextEnds : World → List ℕ → Limits → Ending Room → Type 0
TextEnds world text limits end =
    (b : Block) × (blocks : List (List Op)) × IsProgramWithin text limits.nesting b × IsLight text limits.patterns × IsCode b blocks × CodeEnds world blocks limits end

-- An expression has the result of such a run, or an error of it or of its own. It stops if its tree is
-- higher, if its patterns weigh more, or if such a run stops. It may always fail for lack of memory.
abbrev pub EndsText : World → List ℕ → Limits → Result (Outcome Value) Error → Type 0
EndsText world text limits (Ok (Answered v)) = (left : Room) × TextEnds world text limits (gives v left)
EndsText world text limits (Ok (Stopped Nesting)) = IsHigher text limits.nesting
EndsText world text limits (Ok (Stopped Patterns)) = IsHeavier text limits.patterns
EndsText world text limits (Ok (Stopped limit)) = TextEnds world text limits (stops limit)
EndsText world text limits (Err e) = error_kind e ≢ memory → IsRefused text (Err (error_kind e)) ⊎ TextEnds world text limits (refuses (error_kind e))

-- the result of executing code in a world within limits
pub record RunsCodeLimited (world : World) (blocks : List (List Op)) (keeps : Type 0) (limits : Limits) (result : Result (Outcome Value) Error) : Type 0 where
  -- it ends as a counted run of the code within these limits does: with its value, its error, or its limit
  pub outcome : ReturnsOutcome result (CodeEnds world blocks limits)
  -- `execute` may return its value
  pub answer : MayGive result (CodeAnswers world blocks)
  -- no value is deeper than the limit
  pub depth : IfOk result (λ o. OnAnswer o (λ v. depth_of v ≤ limits.depth))
  -- if the code has its compiled patterns, none is compiled
  pub pattern : NeverRefusesWith world.host bad_pattern → keeps → RefusesNoPattern result

-- the result of evaluating an expression in a world within limits
pub record AnswersTextLimited (world : World) (text : List ℕ) (limits : Limits) (result : Result (Outcome Value) Error) : Type 0 where
  -- it ends as a counted run of a code of the expression's program within these limits, if the expression is
  -- within them; it stops if the expression isn't, and has the errors of the expression
  pub outcome : EndsText world text limits result
  -- `eval` may return its value
  pub answer : MayGive result (MayAnswer text world)
  -- no value is deeper than the limit
  pub depth : IfOk result (λ o. OnAnswer o (λ v. depth_of v ≤ limits.depth))
  -- a syntax error that no function of the host returns is at the first fault of the expression, at a
  -- character boundary
  pub place : IsOwnFault text world.host → IsPlaced text result
  pub boundary : IsOwnFault text world.host → (place : ℕ) → result ≡ Err (PestError place)
      → IsCharBoundary text place
