-- The run that waits for a host's reply.
use Rattle.std.specs.Prelude.{◌≡◌, ◌⊎◌, ℕ, Bool, true, false, List, [], ◌∷◌, ◌++◌, Option, None, Some, IsSomeAnd, MatchOption, Result, Ok, Err, string_bytes}
use Rattle.expr_engine.specs.Engines.{RunInputs, run_inputs, waiting_inputs}
use Rattle.expr_engine.specs.Runs.{named_by}
use Rattle.expr_engine.specs.Served.{EndsCall, RunServes}
use Rattle.expr_exchange.specs.declared.call.Ask.{Ask}
use Rattle.expr_exchange.specs.declared.call.Ask.TheVariants as is
use Rattle.expr_exchange.specs.declared.call.Call.{Call}
use Rattle.expr_engine.specs.declared.engine.Engine.{Engine}
use Rattle.expr_engine.specs.declared.waiting_run.WaitingRun.{WaitingRun}
use Rattle.expr_exchange.specs.Builder.{values_of}
use Rattle.expr_exchange.specs.declared.host_error.HostError.{HostError}
use Rattle.expr_exchange.specs.declared.host_error.HostError.TheVariants.{Language, Unknown, Misuse, Asks, Differs, Stopped}
use Rattle.expr_exchange.specs.declared.handles.Handle.{Handle}
use Rattle.expr_stops.specs.Stops.{IsNext, IsOther, IsSame, UsesWithin, waiting_call_of, nothing_used, replies_of, used_of}
use Rattle.expr_stops.specs.declared.replies.CallReply.{CallReply}
use Rattle.expr_stops.specs.declared.replies.Reply.{Reply}
use Rattle.expr_stops.specs.declared.replies.Reply.TheVariants as reply
use Rattle.expr_stops.specs.declared.replay.Stop.{Stop}
use Rattle.expr_error.specs.ErrorKind.{error_kind, memory}
use Rattle.expr_value.specs.declared.value.Value.{Value}

-- A run came to a call of a registered name, and the reply of its number belongs to another.
pub record ComesToOther (named : List ℕ → Bool) (given : List CallReply) : Type 0 where
  pub stop : Stop
  pub other : IsOther named given stop

-- A run that asks waits for the reply to its next call, and any other waits for nothing. One that differs
-- came to another call.
abbrev pub WaitsIfAsks : {A : Type 0} → RunInputs → List CallReply → Result A HostError → Option Stop → Type 0
WaitsIfAsks q given (Ok v) waits = waits ≡ None
WaitsIfAsks q given (Err (Language error)) waits = waits ≡ None
WaitsIfAsks q given (Err Unknown) waits = waits ≡ None
WaitsIfAsks q given (Err (Misuse why)) waits = waits ≡ None
WaitsIfAsks q given (Err Asks) waits = IsSomeAnd waits (IsNext (named_by q.added) given)
WaitsIfAsks q given (Err Differs) waits = (waits ≡ None) × ComesToOther (named_by q.added) given
WaitsIfAsks q given (Err (Stopped limit)) waits = waits ≡ None

-- The cursor is on a run's value, and an error is passed on.
abbrev pub PassesOn : Result Value HostError → Result (Unit {0}) HostError → Value → Type 0
PassesOn (Ok v) done value = (done ≡ Ok tt) × (value ≡ v)
PassesOn (Err e) done value = done ≡ Err e

-- whether a handle finds nothing
abbrev pub is_unknown : HostError → Bool
is_unknown (Language error) = false
is_unknown Unknown = true
is_unknown (Misuse why) = false
is_unknown Asks = false
is_unknown Differs = false
is_unknown (Stopped limit) = false

abbrev pub finds_nothing : {A : Type 0} → Result A HostError → Bool
finds_nothing (Ok v) = false
finds_nothing (Err refused) = is_unknown refused

-- A run was started with these handles, and has no replies yet. What it used is noted, within the limits.
pub record IsNewRun (q : RunInputs) (of_program in_environment in_context : Handle) (done : Result (Unit {0}) HostError) (waits : WaitingRun) : Type 0 where
  pub program : waits.program ≡ of_program
  pub environment : waits.environment ≡ in_environment
  pub context : waits.context ≡ in_context
  pub given : replies_of waits.stops ≡ []
  pub stands : WaitsIfAsks q [] done (waiting_call_of waits.stops)
  pub used : UsesWithin q.limits (used_of waits.stops)

-- The run is one of the same program, with the same handles.
pub record IsSameRun (old new : WaitingRun) : Type 0 where
  pub program : new.program ≡ old.program
  pub environment : new.environment ≡ old.environment
  pub context : new.context ≡ old.context

-- The same run has the same replies, the same call waits, and as much was used.
pub record IsSameWait (old new : WaitingRun) : Type 0 where
  pub run : IsSameRun old new
  pub stops : IsSame old.stops new.stops

-- The call that waited has such a reply, after all others, and its run continued. What this turn used is noted.
pub record GoesOnWith (Is : Reply → Type 0) (q : RunInputs) (old new : WaitingRun) (done : Result (Unit {0}) HostError) (value : Value) : Type 0 where
  pub stop : Stop
  pub waited : waiting_call_of old.stops ≡ Some stop
  pub reply : Reply
  pub is : Is reply
  pub given : replies_of new.stops
      ≡ replies_of old.stops ++ (record { call = stop.call; reply = reply } ∷ [])
  pub run : IsSameRun old new
  pub stands : WaitsIfAsks q (replies_of new.stops) done (waiting_call_of new.stops)
  pub runs : RunServes q (replies_of new.stops) done value
  pub used : UsesWithin q.limits (used_of new.stops)

-- The run with these inputs continued. If memory is lacking for the reply, a handle finds nothing, or there
-- is no reply, the call still waits.
abbrev pub RunGoesOn : (Reply → Type 0) → Option RunInputs → WaitingRun → WaitingRun → Result (Unit {0}) HostError → Value → Type 0
RunGoesOn Is o old new (Ok v) value = IsSomeAnd o (λ q. GoesOnWith Is q old new (Ok v) value)
RunGoesOn Is o old new (Err (Language error)) value =
    ((error_kind error ≡ memory) × IsSameWait old new)
    ⊎ IsSomeAnd o (λ q. GoesOnWith Is q old new (Err (Language error)) value)
RunGoesOn Is o old new (Err Unknown) value = new ≡ old
RunGoesOn Is o old new (Err (Misuse why)) value = new ≡ old
RunGoesOn Is o old new (Err Asks) value = IsSomeAnd o (λ q. GoesOnWith Is q old new (Err Asks) value)
RunGoesOn Is o old new (Err Differs) value = IsSomeAnd o (λ q. GoesOnWith Is q old new (Err Differs) value)
RunGoesOn Is o old new (Err (Stopped limit)) value = IsSomeAnd o (λ q. GoesOnWith Is q old new (Err (Stopped limit)) value)

-- The value was built last.
pub record IsBuiltLast (values : List Value) (v : Value) : Type 0 where
  pub front : List Value
  pub stood : values ≡ front ++ v ∷ []

abbrev pub IsAnswer : List Value → Reply → Type 0
IsAnswer values (reply.Value v) = IsBuiltLast values v
IsAnswer values (reply.Refusal message) = ⊥

abbrev pub IsRefusal : List ℕ → Reply → Type 0
IsRefusal text (reply.Value v) = ⊥
IsRefusal text (reply.Refusal message) = string_bytes message ≡ text

-- How a call changes the run that waits: calls that run nothing leave it as it is.
abbrev pub Turns : Ask → Engine → Call → Result (Unit {0}) HostError → WaitingRun → Value → Type 0
Turns is.Run old call done waits value =
    MatchOption (run_inputs old call.program call.environment call.context) (waits ≡ old.waits)
    (λ q. IsNewRun q call.program call.environment call.context done waits)
Turns is.Answer old call done waits value = RunGoesOn (IsAnswer (values_of old.built)) (waiting_inputs old) old.waits waits done value
Turns is.Refuse old call done waits value = RunGoesOn (IsRefusal call.text.now) (waiting_inputs old) old.waits waits done value
Turns is.Clear old call done waits value =
    (waiting_call_of waits.stops ≡ None) × (used_of waits.stops ≡ nothing_used)
Turns ask old call done waits value = waits ≡ old.waits

-- how the number of a status says that the run changed
pub record TurnsBy (ask : Ask) (old : Engine) (call : Call) (number : ℕ) (waits : WaitingRun) (value : Value) : Type 0 where
  pub done : Result (Unit {0}) HostError
  pub ends : EndsCall done number
  pub turns : Turns ask old call done waits value
