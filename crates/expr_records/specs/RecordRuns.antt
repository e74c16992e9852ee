-- What an expression comes to for a record, and for a name, within limits or without.
use Rattle.std.specs.Prelude.{◌≡◌, ◌≢◌, ◌≤◌, ◌⊎◌, ℕ, List, [], Option, None, Some, Result, Ok, Err}
use Rattle.expr_context.specs.Contexts.{NamedValues, context_of}
use Rattle.expr_costs.specs.Costs.{costs_in}
use Rattle.expr_error.specs.ErrorKind.{error_kind, memory, pattern as bad_pattern}
use Rattle.expr_error.specs.declared.error.Error.{Error}
use Rattle.expr_limits.specs.Counting.{Ending, gives, refuses, stops}
use Rattle.expr_limits.specs.Rooms.{Room, limited, rooms}
use Rattle.expr_limits.specs.Sizes.{depth as depth_of}
use Rattle.expr_limits.specs.declared.limits.Limits.{Limits}
use Rattle.expr_limits.specs.declared.outcome.Outcome.{Outcome}
use Rattle.expr_limits.specs.declared.outcome.Outcome.TheVariants.{Answered, Stopped}
use Rattle.expr_lowering.specs.Blocks.{CodeKeeps}
use Rattle.expr_lowering.specs.Owned.{own_value}
use Rattle.expr_lowering.specs.OwnedCodes.{owned_blocks}
use Rattle.expr_meaning.specs.Allows.{AllowsBlock}
use Rattle.expr_meaning.specs.Counts.{CodeCounts}
use Rattle.expr_meaning.specs.Host.{Host}
use Rattle.expr_meaning.specs.Refusals.{NeverRefusesWith}
use Rattle.expr_meaning.specs.World.{World, world_of}
use Rattle.expr_records.specs.RecordCode.{IsBeyondLimit, IsCodeOf, IsProgramIn, RecordCode}
use Rattle.expr_records.specs.Records.{record_context}
use Rattle.expr_syntax.specs.Refused.{IsRefused}
use Rattle.expr_tree.specs.Term.{Block}
use Rattle.expr_value.specs.Answers.{Answer}
use Rattle.expr_value.specs.Names.{put}
use Rattle.expr_value.specs.declared.value.Value.{Value}

-- what the expression may return in a world
abbrev pub may_answer : Option Limits → List ℕ → World → Answer → Type 0
may_answer limits text world answer = (b : Block) × IsProgramIn limits text b × AllowsBlock world b answer

-- if a run ends with a value or an error, it is one of these
abbrev pub AnswersBy : (Answer → Type 0) → Ending Room → Type 0
AnswersBy allowed (gives v left) = allowed (Ok v)
AnswersBy allowed (refuses e) = allowed (Err e)
AnswersBy allowed (stops limit) = Unit {0}

-- Within limits, a run ends as the counting of its code says. Without limits, it stops at none.
abbrev pub CountsBy : Option Limits → World → RecordCode → Ending Room → Type 0
CountsBy (Some limits) world code end = CodeCounts rooms (costs_in world.host) world (owned_blocks code) (limited limits.steps limits.size limits.depth) end
CountsBy None world code (gives v left) = Unit {0}
CountsBy None world code (refuses e) = Unit {0}
CountsBy None world code (stops limit) = ⊥

-- a value is no deeper than the limit
abbrev pub GivesWithin : Option Limits → Ending Room → Type 0
GivesWithin (Some limits) (gives v left) = depth_of v ≤ limits.depth
GivesWithin (Some limits) (refuses e) = Unit {0}
GivesWithin (Some limits) (stops limit) = Unit {0}
GivesWithin None end = Unit {0}

-- each `matches` of the code has the compiled pattern of its literal
abbrev pub KeepsAllPatterns : RecordCode → Type 0
KeepsAllPatterns code = CodeKeeps own_value (λ p. p.value) code

-- how a run of an expression's code ends in a world, within limits or without
pub record RunEnds (limits : Option Limits) (text : List ℕ) (code : RecordCode) (world : World) (end : Ending Room) : Type 0 where
  -- with a value or an error that the expression may return
  pub answer : AnswersBy (may_answer limits text world) end
  -- or at a limit, where the run passes it by counting
  pub counts : CountsBy limits world code end
  -- with no value that is deeper than the limit
  pub depth : GivesWithin limits end
  -- with no error of a pattern, if the code keeps its patterns and no function of the host has such an error
  pub pattern : NeverRefusesWith world.host bad_pattern → KeepsAllPatterns code → end ≢ refuses bad_pattern

-- how the run for a record ends, with names that come before its members
abbrev pub RecordEnds : Option Limits → Host → NamedValues → List ℕ → RecordCode → NamedValues → Ending Room → Type 0
RecordEnds limits host names text code members end = RunEnds limits text code (world_of host (record_context names members)) end

-- an expression without code ends with its error, or at the limit that it passes
abbrev pub EndsUncompiled : Option Limits → List ℕ → Ending Room → Type 0
EndsUncompiled limits text (gives v left) = ⊥
EndsUncompiled limits text (refuses e) = IsRefused text (Err e)
EndsUncompiled limits text (stops limit) = IsBeyondLimit limits text limit

-- how the expression of a name ends, which sees no names
abbrev pub NameEnds : Option Limits → Host → List ℕ → Ending Room → Type 0
NameEnds limits host text end =
    EndsUncompiled limits text end
    ⊎ ((code : RecordCode) × IsCodeOf limits text code × RunEnds limits text code (world_of host (context_of [])) end)

-- The name gets the value with which its expression ends. If there is none, the names stay as they were.
abbrev pub Binds : (Ending Room → Type 0) → List ℕ → NamedValues → NamedValues → Result (Outcome (Unit {0})) Error → Type 0
Binds ends name old new (Ok (Answered done)) = (v : Value) × (left : Room) × ends (gives v left) × (new ≡ put name v old)
Binds ends name old new (Ok (Stopped limit)) = ends (stops limit) × (new ≡ old)
Binds ends name old new (Err e) = (error_kind e ≢ memory → ends (refuses (error_kind e))) × (new ≡ old)
