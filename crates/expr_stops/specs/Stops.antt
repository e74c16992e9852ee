-- Calls of a host's functions at which a run stops, and how such a run goes.
use Rattle.std.specs.Prelude.{◌≡◌, ◌≢◌, ◌≤◌, ◌&&◌, ◌||◌, ◌++◌, ◌∷◌, [], ℕ, Bool, true, false, List, MatchBool, Ok, Err, Option, None, Some, IsSomeAnd, Result, String, bytes_eq, length, slice_get, string_bytes}
use Rattle.std.specs.Cmp.Lexicographic.{pointwise}
use Rattle.std.specs.declared.alloc.Global.{Global}
use Rattle.std.specs.HashSet.{contains_text}
use Rattle.expr_code.specs.Instructions.{Op}
use Rattle.expr_meaning.specs.CodeRuns.{CodeAnswers}
use Rattle.expr_costs.specs.Costs.{costs_in}
use Rattle.expr_meaning.specs.Allows.{AllowsBlock}
use Rattle.expr_meaning.specs.Host.{Host}
use Rattle.expr_meaning.specs.Independence.{AgreeAt}
use Rattle.expr_limits.specs.Counting.{Ending, gives, refuses, stops as stops_at}
use Rattle.expr_machine.specs.Promises.{CountsUse}
use Rattle.expr_meaning.specs.Counts.{CodeCounts}
use Rattle.expr_limits.specs.Rooms.{Room, rooms, limited}
use Rattle.expr_limits.specs.declared.limits.Limits.{Limits}
use Rattle.expr_limits.specs.declared.outcome.Outcome.{Outcome}
use Rattle.expr_limits.specs.declared.outcome.Outcome.TheVariants as outcome
use Rattle.expr_meaning.specs.World.{World, with_context}
use Rattle.expr_context.specs.Context.{ContextView}
use Rattle.expr_stops.specs.declared.replies.CallReply.{CallReply}
use Rattle.expr_stops.specs.declared.replies.Reply.{Reply}
use Rattle.expr_stops.specs.declared.replies.Reply.TheVariants as reply
use Rattle.expr_stops.specs.declared.names.StopNames.{StopNames}
use Rattle.expr_stops.specs.declared.replay.Stop.{Stop}
use Rattle.expr_stops.specs.declared.stops.Stops.{Stops}
use Rattle.expr_stops.specs.declared.used.Used.{Used}
use Rattle.expr_stops.specs.declared.stops.RunStatus.{RunStatus}
use Rattle.expr_stops.specs.declared.stops.RunStatus.TheVariants.{Ended, Asks, Differs, Stopped}
use Rattle.expr_tree.specs.Names.{AreNamesOf}
use Rattle.expr_tree.specs.Term.{Block}
use Rattle.expr_value.specs.Answers.{Answer}
use Rattle.expr_error.specs.ErrorKind.{evaluation, error_kind, memory}
use Rattle.expr_value.specs.Values.{equals}
use Rattle.expr_error.specs.declared.error.Error.{Error}
use Rattle.expr_value.specs.declared.value.Value.{Value}

-- whether a name is registered
abbrev pub is_named : StopNames → List ℕ → Bool
is_named registered key = contains_text registered.names key

-- a reply as a result: a function that fails has an evaluation error
abbrev pub answer_of : Reply → Answer
answer_of (reply.Value v) = Ok v
answer_of (reply.Refusal text) = Err evaluation

-- whether a reply belongs to a call of this name with arguments equal to these
abbrev pub is_to : CallReply → List ℕ → List Value → Bool
is_to given key vs = bytes_eq (string_bytes given.call.ident) key && pointwise equals given.call.args.items vs

-- One of these replies belongs to a call of this name with arguments equal to these, and has this result.
pub record IsReply (given : List CallReply) (key : List ℕ) (vs : List Value) (answer : Answer) : Type 0 where
  pub place : ℕ
  pub one : CallReply
  pub stands : slice_get given place ≡ Some one
  pub to : is_to one key vs ≡ true
  pub is : answer_of one.reply ≡ answer

-- a host in which a call of one of these names has the host's reply as its result, and everything else is as
-- in another
abbrev pub host_replying : Host → (List ℕ → Bool) → List CallReply → Host
host_replying host named given = record {
  is_added = λ key. named key || host.is_added key;
  calls = λ key vs answer. MatchBool (named key) (IsReply given key vs answer) (host.calls key vs answer);
  zones = host.zones;
  moment = host.moment;
}

-- the host's replies, in the order of the calls
abbrev pub replies_of : Stops → List CallReply
replies_of stops = stops.given.items

-- the call that waits for a reply
abbrev pub waiting_call_of : Stops → Option Stop
waiting_call_of stops = stops.asked

-- what the last turn used of its limits
abbrev pub used_of : Stops → Used
used_of stops = stops.used

abbrev pub nothing_used : Used
nothing_used = record { steps = 0; size = 0 }

-- A run uses no more than the limits allow. Without limits nothing is counted.
abbrev pub UsesWithin : Option Limits → Used → Type 0
UsesWithin (Some limits) used = (used.steps ≤ limits.steps) × (used.size ≤ limits.size)
UsesWithin None used = used ≡ nothing_used

-- What it used is what a counted run of the code uses that ends so.
abbrev pub CodeUses : Option Limits → World → List (List Op) → Result (Outcome Value) Error → Used → Type 0
CodeUses (Some limits) world blocks result used = CountsUse world blocks limits result used.steps used.size
CodeUses None world blocks result used = used ≡ nothing_used

-- this holds of the result of a run that ended
abbrev pub IfEnded : RunStatus → (Result Value Error → Type 0) → Type 0
IfEnded (Ended r) P = P r
IfEnded Asks P = Unit {0}
IfEnded (Differs stop) P = Unit {0}
IfEnded (Stopped limit) P = Unit {0}

-- It ends with one of these results, and passes no limit.
abbrev pub ComesTo : (Answer → Type 0) → Ending Room → Type 0
ComesTo allowed (gives v left) = allowed (Ok v)
ComesTo allowed (refuses e) = allowed (Err e)
ComesTo allowed (stops_at limit) = ⊥

-- A program may return this in each context that agrees with the world's at the program's names.
abbrev pub AllowedWhereAgreed : World → Block → Answer → Type 0
AllowedWhereAgreed world b answer = (other : ContextView) (keys : List (List ℕ)) → AreNamesOf keys b → AgreeAt keys b world.context other → AllowsBlock (with_context world other) b answer

-- The endings of a run of code: within limits those of a counted run, and without limits its results.
abbrev pub CodeComes : Option Limits → World → List (List Op) → Ending Room → Type 0
CodeComes (Some limits) world code end = CodeCounts rooms (costs_in world.host) world code (limited limits.steps limits.size limits.depth) end
CodeComes None world code end = ComesTo (CodeAnswers world code) end

-- A run that ended has the value or the error of such a run, or fails for lack of memory. One that stopped at
-- a limit does so where such a run does.
abbrev pub EndsTurn : RunStatus → (Ending Room → Type 0) → Type 0
EndsTurn (Ended (Ok v)) allowed = (left : Room) × allowed (gives v left)
EndsTurn (Ended (Err e)) allowed = error_kind e ≢ memory → allowed (refuses (error_kind e))
EndsTurn Asks allowed = Unit {0}
EndsTurn (Differs stop) allowed = Unit {0}
EndsTurn (Stopped limit) allowed = allowed (stops_at limit)

-- It ended or stopped at a limit as the run did.
abbrev pub IsAsItWent : Result (Outcome Value) Error → RunStatus → Type 0
IsAsItWent went (Ended (Ok v)) = went ≡ Ok (outcome.Answered v)
IsAsItWent went (Ended (Err e)) = went ≡ Err e
IsAsItWent went Asks = Unit {0}
IsAsItWent went (Differs stop) = Unit {0}
IsAsItWent went (Stopped limit) = went ≡ Ok (outcome.Stopped limit)

-- The reply of this call's number, which is of a registered name, belongs to another call.
pub record IsOther (named : List ℕ → Bool) (given : List CallReply) (stop : Stop) : Type 0 where
  pub is_named : named (string_bytes stop.call.ident) ≡ true
  pub one : CallReply
  pub stands : slice_get given stop.place ≡ Some one
  pub other : is_to one (string_bytes stop.call.ident) stop.call.args.items ≡ false

-- This call is of a registered name and has no reply, and all calls before it have replies.
pub record IsNext (named : List ℕ → Bool) (given : List CallReply) (stop : Stop) : Type 0 where
  pub is_named : named (string_bytes stop.call.ident) ≡ true
  pub place : stop.place ≡ length given

-- A run that asks waits for the reply to its next call. Any other waits for nothing. One that differs stopped
-- at another call than before.
abbrev pub StopsWell : (List ℕ → Bool) → List CallReply → RunStatus → Option Stop → Type 0
StopsWell named given (Ended r) asked = asked ≡ None
StopsWell named given Asks asked = IsSomeAnd asked (IsNext named given)
StopsWell named given (Differs stop) asked = (asked ≡ None) × IsOther named given stop
StopsWell named given (Stopped limit) asked = asked ≡ None

-- There is no new reply, the same call waits, and as much was used.
pub record IsSame (old new : Stops) : Type 0 where
  pub given : replies_of new ≡ replies_of old
  pub asked : waiting_call_of new ≡ waiting_call_of old
  pub used : used_of new ≡ used_of old

-- The call that waited has this reply, after all others, and none waits.
pub record IsReplied (old new : Stops) (reply : Reply) : Type 0 where
  pub stop : Stop
  pub waited : waiting_call_of old ≡ Some stop
  pub given : replies_of new ≡ replies_of old ++ (record { call = stop.call; reply = reply } ∷ [])
  pub asked : waiting_call_of new ≡ None

-- The call that waited has an error with this message for its reply.
pub record IsRepliedRefusal (old new : Stops) (text : List ℕ) : Type 0 where
  pub message : String Global
  pub says : string_bytes message ≡ text
  pub replied : IsReplied old new (reply.Refusal message)
