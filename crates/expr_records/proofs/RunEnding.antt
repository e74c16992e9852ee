-- How a run of an expression's code ends, by what the machine promises of it.
use Rattle.std.proofs.Common.{◌≡◌, ◌≢◌, ℕ, List, None, Some, Result, Ok, Err, ap, refl, subst, sym}
use Rattle.std.specs.Prelude.{Option}
use Rattle.std.specs.Result.{IsErrAnd}
use Rattle.expr_context.specs.Contexts.{NamedValues}
use Rattle.expr_costs.specs.Costs.{costs_in}
use Rattle.expr_error.specs.ErrorKind.{ErrorKind, error_kind, memory}
use Rattle.expr_error.specs.declared.error.Error.{Error}
use Rattle.expr_limits.specs.Counting.{Ending, ending_of, gives, refuses, stops}
use Rattle.expr_limits.specs.Outcomes.{ReturnsOutcome}
use Rattle.expr_limits.specs.Rooms.{Room, limited, rooms, unlimited}
use Rattle.expr_limits.specs.declared.limits.Limits.{Limits}
use Rattle.expr_limits.specs.declared.outcome.Outcome.{Outcome}
use Rattle.expr_limits.specs.declared.outcome.Outcome.TheVariants.{Answered, Stopped}
use Rattle.expr_lowering.specs.OwnedCodes.{owned_blocks}
use Rattle.expr_machine.specs.Promises.{RunsCode, RunsCodeWithin}
use Rattle.expr_meaning.proofs.Correct.{exact_code}
use Rattle.expr_meaning.proofs.Forgotten.{code_forgets}
use Rattle.expr_meaning.specs.CodeRuns.{CodeAnswers}
use Rattle.expr_meaning.specs.Counts.{CodeCounts}
use Rattle.expr_meaning.specs.World.{World}
use Rattle.expr_records.specs.RecordCode.{IsCodeOf, RecordCode}
use Rattle.expr_records.specs.RecordRuns.{Binds, KeepsAllPatterns, RunEnds, may_answer}
use Rattle.expr_value.specs.Answers.{Answer}
use Rattle.expr_value.specs.declared.value.Value.{Value}

-- the error of an ending
abbrev fault_in : Ending Room → ErrorKind
fault_in (gives v left) = memory
fault_in (refuses e) = e
fault_in (stops limit) = memory

module _ (text : List ℕ) (code : RecordCode) (world : World) where
  allowed : (limits : Option Limits) → IsCodeOf limits text code → (a : Answer) → CodeAnswers world (owned_blocks code) a → may_answer limits text world a
  allowed limits is a p = (is.0, is.1, (exact_code world is.0 (owned_blocks code) is.2 a).0 p)

  -- without limits
  pub gives_unlimited : (v : Value) → IsCodeOf None text code → RunsCode world (owned_blocks code) (KeepsAllPatterns code) (Ok v) → (left : Room) × RunEnds None text code world (gives v left)
  gives_unlimited v is ran = (
    unlimited,
    record { answer = allowed None is (Ok v) ran.answer; counts = tt; depth = tt; pattern = λ never keeps same. absurd (cc same) },
  )

  pub refuses_unlimited : (e : Error) → IsCodeOf None text code → RunsCode world (owned_blocks code) (KeepsAllPatterns code) (Err e) → error_kind e ≢ memory → RunEnds None text code world (refuses (error_kind e))
  refuses_unlimited e is ran m = record {
    answer = allowed None is (Err (error_kind e)) (ran.answer m);
    counts = tt;
    depth = tt;
    pattern = λ never keeps same. ran.pattern never keeps (ap fault_in same);
  }

  -- within limits
  module _ (limits : Limits) (is : IsCodeOf (Some limits) text code) where
    counted : (a : Answer) (left : Room) → CodeCounts rooms (costs_in world.host) world (owned_blocks code) (limited limits.steps limits.size limits.depth) (ending_of a left) → may_answer (Some limits) text world a
    counted a left p = allowed (Some limits) is a (code_forgets rooms (costs_in world.host) world (owned_blocks code) (limited limits.steps limits.size limits.depth) a left p)

    pub ends_within : (r : Result (Outcome Value) Error) → RunsCodeWithin world (owned_blocks code) (KeepsAllPatterns code) limits r → ReturnsOutcome r (RunEnds (Some limits) text code world)
    ends_within (Ok (Answered v)) ran = (
      ran.outcome.0,
      record { answer = counted (Ok v) ran.outcome.0 ran.outcome.1; counts = ran.outcome.1; depth = ran.depth; pattern = λ never keeps same. absurd (cc same) },
    )
    ends_within (Ok (Stopped limit)) ran = record { answer = tt; counts = ran.outcome; depth = tt; pattern = λ never keeps same. absurd (cc same) }
    ends_within (Err e) ran = λ m. record {
      answer = counted (Err (error_kind e)) unlimited (ran.outcome m);
      counts = ran.outcome m;
      depth = tt;
      pattern = λ never keeps same. ran.pattern never keeps (ap fault_in same);
    }

-- a result under another relation that allows as much
pub ends_under : (r : Result (Outcome Value) Error) (P Q : Ending Room → Type 0) → ((end : Ending Room) → P end → Q end) → ReturnsOutcome r P → ReturnsOutcome r Q
ends_under (Ok (Answered v)) P Q f p = (p.0, f (gives v p.0) p.1)
ends_under (Ok (Stopped limit)) P Q f p = f (stops limit) p
ends_under (Err e) P Q f p = λ m. f (refuses (error_kind e)) (p m)

-- an error that a `?` passes on, of a call whose endings are known
pub refusal_passed : (r : Result (Outcome Value) Error) (e : Error) (P : Ending Room → Type 0) → IsErrAnd r (λ x. x ≡ e) → (error_kind e ≢ memory → P (refuses (error_kind e))) → ReturnsOutcome r P
refusal_passed (Ok o) e P is p = absurd is
refusal_passed (Err x) e P is p = subst (λ y. error_kind y ≢ memory → P (refuses (error_kind y))) (sym is) p

-- an error that a `?` passes on, where a name was to be bound
pub binds_passed : (ends : Ending Room → Type 0) (name : List ℕ) (names : NamedValues) (r : Result (Outcome (Unit {0})) Error) (e : Error)
    → IsErrAnd r (λ x. x ≡ e) → (error_kind e ≢ memory → ends (refuses (error_kind e))) → Binds ends name names names r
binds_passed ends name names (Ok o) e is p = absurd is
binds_passed ends name names (Err x) e is p = (subst (λ y. error_kind y ≢ memory → ends (refuses (error_kind y))) (sym is) p, refl)
