-- Runs that begin, and runs that go on with a reply.
use Rattle.std.proofs.Common.{◌≡◌, ◌≢◌, ◌⊎◌, ◌∙◌, ◌∷◌, ◌++◌, true, false, List, [], Option, None, Some, IsSome, IsErrAnd, IsSomeAnd, MatchOption, Result, Ok, Err, IfErr, IsOk, OnOk, inl, inr, ap, refl, subst, sym}
use Rattle.std.proofs.lemmas.Bool.{false≢true}
use Rattle.std.specs.Option.{option_and_then, option_map}
use Rattle.expr_engine.specs.Engines.{RunInputs, RunMayAnswer, MayEnd, additions_at, names_at, run_inputs}
use Rattle.expr_context.specs.Contexts.{NamedValues}
use Rattle.expr_engine.specs.Runs.{named_by}
use Rattle.expr_engine.specs.Served.{RunServes}
use Rattle.expr_engine.specs.Turns.{GoesOnWith, IsAnswer, IsNewRun, IsSameRun, PassesOn, RunGoesOn, WaitsIfAsks, finds_nothing}
use Rattle.expr_engine.specs.declared.additions.Additions.{Additions}
use Rattle.expr_engine.specs.declared.engine.Engine.{Engine}
use Rattle.expr_engine.specs.declared.rule.Rule.{Rule}
use Rattle.expr_engine.specs.declared.waiting_run.WaitingRun.{WaitingRun}
use Rattle.expr_exchange.specs.Refusals.{ReturnsToHost}
use Rattle.expr_exchange.specs.declared.host_error.HostError.{HostError}
use Rattle.expr_exchange.specs.declared.host_error.HostError.TheVariants.{Language, Unknown, Misuse, Asks, Differs, Stopped}
use Rattle.expr_exchange.specs.declared.misuse.Misuse.{Misuse as Wrong}
use Rattle.expr_exchange.specs.declared.misuse.Misuse.TheVariants as wrong
use Rattle.expr_exchange.specs.HandleMap.{thing_at}
use Rattle.expr_exchange.specs.declared.handles.Handle.{Handle}
use Rattle.expr_limits.specs.Counting.{stops}
use Rattle.expr_stops.specs.Stops.{IsOther, IsReplied, UsesWithin, waiting_call_of, replies_of, used_of}
use Rattle.expr_stops.specs.declared.replies.CallReply.{CallReply}
use Rattle.expr_stops.specs.declared.replies.Reply.{Reply}
use Rattle.expr_stops.specs.declared.replies.Reply.TheVariants as reply
use Rattle.expr_stops.specs.declared.replay.Stop.{Stop}
use Rattle.expr_stops.specs.declared.stops.Stops.{Stops}
use Rattle.expr_value.specs.declared.value.Value.{Value}

-- what a run finds under three handles
abbrev inputs_in : Engine → Rule → Option Additions → NamedValues → RunInputs
inputs_in engine rule added names = record { rule = rule; added = added; names = names; limits = engine.limits }

pub found_so : (engine : Engine) (program environment context : Handle) (rule : Rule) (added : Option Additions) (names : NamedValues) → Some rule ≡ thing_at engine.rules program → additions_at engine environment ≡ Some added → names_at engine context ≡ Some names
    → run_inputs engine program environment context ≡ Some (inputs_in engine rule added names)
found_so engine program environment context rule added names r a n =
    ap (λ (o : Option Rule). option_and_then (λ (rule : Rule). option_and_then (λ (added : Option Additions). option_map (λ (names : NamedValues). inputs_in engine rule added names) (names_at engine context)) (additions_at engine environment)) o) (sym r)
    ∙ ap (λ (o : Option (Option Additions)). option_and_then (λ (added : Option Additions). option_map (λ (names : NamedValues). inputs_in engine rule added names) (names_at engine context)) o) a
    ∙ ap (λ (o : Option NamedValues). option_map (λ (names : NamedValues). inputs_in engine rule added names) o) n

-- a run that differs came to another call than the recorded one
pub differs_so : {stop : Stop} (engine : Engine) (program environment context : Handle) (rule : Rule) (added : Option Additions) (names : NamedValues) (given : List CallReply) (waits : Option Stop) (r : Result Value HostError)
    → Some rule ≡ thing_at engine.rules program → additions_at engine environment ≡ Some added → names_at engine context ≡ Some names → r ≡ Err Differs → waits ≡ None → IsOther (named_by added) given stop
    → MatchOption (run_inputs engine program environment context) (r ≡ Err Unknown) (λ q. WaitsIfAsks q given r waits)
differs_so {stop} engine program environment context rule added names given waits r found a n is none other =
    let stands : WaitsIfAsks {A = Value} (inputs_in engine rule added names) given (Err Differs) waits = (none, record { stop = stop; other = other }) in
    subst (λ (o : Option RunInputs). MatchOption o (r ≡ Err Unknown) (λ q. WaitsIfAsks q given r waits)) (sym (found_so engine program environment context rule added names found a n))
    (subst (λ (d : Result Value HostError). WaitsIfAsks (inputs_in engine rule added names) given d waits) (sym is) stands)

-- what a run gives is kept, or passed on
runs_kept : (q : RunInputs) (given : List CallReply) (answer : Result Value HostError) (done : Result (Unit {0}) HostError) (value : Value)
    → ReturnsToHost answer (RunMayAnswer q given) (λ limit. MayEnd q given (stops limit)) → PassesOn answer done value → RunServes q given done value
runs_kept q given (Ok v) done value g k =
    subst (λ (d : Result (Unit {0}) HostError). RunServes q given d value) (sym k.0) (subst (λ (x : Value). RunMayAnswer q given (Ok x)) (sym k.1) g)
runs_kept q given (Err (Language error)) done value g k = subst (λ (d : Result (Unit {0}) HostError). RunServes q given d value) (sym k) g
runs_kept q given (Err Unknown) done value g k = absurd g
runs_kept q given (Err (Misuse why)) done value g k = absurd g
runs_kept q given (Err Asks) done value g k = subst (λ (d : Result (Unit {0}) HostError). RunServes q given d value) (sym k) tt
runs_kept q given (Err Differs) done value g k = subst (λ (d : Result (Unit {0}) HostError). RunServes q given d value) (sym k) tt
runs_kept q given (Err (Stopped limit)) done value g k = subst (λ (d : Result (Unit {0}) HostError). RunServes q given d value) (sym k) g

pub went : (o : Option RunInputs) (given : List CallReply) (answer : Result Value HostError) (done : Result (Unit {0}) HostError) (value : Value)
    → MatchOption o (answer ≡ Err Unknown) (λ q. ReturnsToHost answer (RunMayAnswer q given) (λ limit. MayEnd q given (stops limit))) → PassesOn answer done value
    → MatchOption o (done ≡ Err Unknown) (λ q. RunServes q given done value)
went None given (Ok v) done value m k = let no : ⊥ = cc m in absurd no
went None given (Err e) done value m k = let same : e ≡ Unknown = cc m in k ∙ ap Err same
went (Some q) given answer done value m k = runs_kept q given answer done value m k

-- the state of a run is its state when its result is kept
stands_kept : (q : RunInputs) (given : List CallReply) (answer : Result Value HostError) (done : Result (Unit {0}) HostError) (value : Value) (waits : Option Stop)
    → WaitsIfAsks q given answer waits → PassesOn answer done value → WaitsIfAsks q given done waits
stands_kept q given (Ok v) done value waits s k = subst (λ (d : Result (Unit {0}) HostError). WaitsIfAsks q given d waits) (sym k.0) s
stands_kept q given (Err (Language error)) done value waits s k = subst (λ (d : Result (Unit {0}) HostError). WaitsIfAsks q given d waits) (sym k) s
stands_kept q given (Err Unknown) done value waits s k = subst (λ (d : Result (Unit {0}) HostError). WaitsIfAsks q given d waits) (sym k) s
stands_kept q given (Err (Misuse why)) done value waits s k = subst (λ (d : Result (Unit {0}) HostError). WaitsIfAsks q given d waits) (sym k) s
stands_kept q given (Err Asks) done value waits s k = subst (λ (d : Result (Unit {0}) HostError). WaitsIfAsks q given d waits) (sym k) s
stands_kept q given (Err Differs) done value waits s k = subst (λ (d : Result (Unit {0}) HostError). WaitsIfAsks q given d waits) (sym k) s
stands_kept q given (Err (Stopped limit)) done value waits s k = subst (λ (d : Result (Unit {0}) HostError). WaitsIfAsks q given d waits) (sym k) s

-- the state of a run that was taken out of an engine
pub went_as : (o : Option RunInputs) (was is : Stops) (answer : Result Value HostError) (done : Result (Unit {0}) HostError) (value : Value)
    → is ≡ was → MatchOption o (answer ≡ Err Unknown) (λ q. ReturnsToHost answer (RunMayAnswer q (replies_of is)) (λ limit. MayEnd q (replies_of is) (stops limit))) → PassesOn answer done value
    → MatchOption o (done ≡ Err Unknown) (λ q. RunServes q (replies_of was) done value)
went_as o was is answer done value same m k =
    subst (λ (s : Stops). MatchOption o (done ≡ Err Unknown) (λ q. RunServes q (replies_of s) done value)) same (went o (replies_of is) answer done value m k)

pub stood : (o : Option RunInputs) (given : List CallReply) (answer : Result Value HostError) (done : Result (Unit {0}) HostError) (value : Value) (waits : Option Stop)
    → MatchOption o (answer ≡ Err Unknown) (λ q. WaitsIfAsks q given answer waits) → PassesOn answer done value
    → MatchOption o (done ≡ Err Unknown) (λ q. WaitsIfAsks q given done waits)
stood None given (Ok v) done value waits m k = let no : ⊥ = cc m in absurd no
stood None given (Err e) done value waits m k = let same : e ≡ Unknown = cc m in k ∙ ap Err same
stood (Some q) given answer done value waits m k = stands_kept q given answer done value waits m k

pub stood_as : (o : Option RunInputs) (was is now after : Stops) (answer : Result Value HostError) (done : Result (Unit {0}) HostError) (value : Value)
    → is ≡ was → after ≡ now → (waiting_call_of is ≡ None → MatchOption o (answer ≡ Err Unknown) (λ q. WaitsIfAsks q (replies_of is) answer (waiting_call_of now))) → PassesOn answer done value → waiting_call_of was ≡ None
    → MatchOption o (done ≡ Err Unknown) (λ q. WaitsIfAsks q (replies_of was) done (waiting_call_of after))
stood_as o was is now after answer done value same kept m k none =
    subst (λ (x : Stops). MatchOption o (done ≡ Err Unknown) (λ q. WaitsIfAsks q (replies_of was) done (waiting_call_of x))) (sym kept)
    (subst (λ (s : Stops). MatchOption o (done ≡ Err Unknown) (λ q. WaitsIfAsks q (replies_of s) done (waiting_call_of now))) same
    (stood o (replies_of is) answer done value (waiting_call_of now) (m (subst (λ (s : Stops). waiting_call_of s ≡ None) (sym same) none)) k))

-- and what it used is noted
pub used_as : (o : Option RunInputs) (now after : Stops) (answer : Result Value HostError) (done : Result (Unit {0}) HostError) (value : Value)
    → after ≡ now → MatchOption o (answer ≡ Err Unknown) (λ q. UsesWithin q.limits (used_of now)) → PassesOn answer done value
    → MatchOption o (done ≡ Err Unknown) (λ q. UsesWithin q.limits (used_of after))
used_as None now after (Ok v) done value kept m k = let no : ⊥ = cc m in absurd no
used_as None now after (Err e) done value kept m k = let same : e ≡ Unknown = cc m in k ∙ ap Err same
used_as (Some q) now after answer done value kept m k = subst (λ (s : Stops). UsesWithin q.limits (used_of s)) (sym kept) m

-- a run with the error of a handle that finds nothing has such a handle, and any other has none
pub nothing_found : (o : Option RunInputs) (given : List CallReply) (answer : Result Value HostError)
    → MatchOption o (answer ≡ Err Unknown) (λ q. ReturnsToHost answer (RunMayAnswer q given) (λ limit. MayEnd q given (stops limit))) → finds_nothing answer ≡ true → o ≡ None
nothing_found None given answer m e = refl
nothing_found (Some q) given (Ok v) m e = absurd (false≢true e)
nothing_found (Some q) given (Err (Language error)) m e = absurd (false≢true e)
nothing_found (Some q) given (Err Unknown) m e = absurd m
nothing_found (Some q) given (Err (Misuse why)) m e = absurd m
nothing_found (Some q) given (Err Asks) m e = absurd (false≢true e)
nothing_found (Some q) given (Err Differs) m e = absurd (false≢true e)
nothing_found (Some q) given (Err (Stopped limit)) m e = absurd (false≢true e)

pub where_none : (o : Option RunInputs) (N : Type 0) (P : RunInputs → Type 0) → o ≡ None → N → MatchOption o N P
where_none o N P none n = subst (λ (x : Option RunInputs). MatchOption x N P) (sym none) n

-- a run that was begun
pub begun : (o : Option RunInputs) (program environment context : Handle) (begins : Stops) (old new : WaitingRun) (answer : Result Value HostError) (done : Result (Unit {0}) HostError) (value : Value)
    → new ≡ record { program = program; environment = environment; context = context; stops = begins } → finds_nothing answer ≡ false → replies_of begins ≡ []
    → MatchOption o (answer ≡ Err Unknown) (λ q. WaitsIfAsks q [] answer (waiting_call_of begins)) → MatchOption o (answer ≡ Err Unknown) (λ q. UsesWithin q.limits (used_of begins))
    → PassesOn answer done value → MatchOption o (new ≡ old) (λ q. IsNewRun q program environment context done new)
begun None program environment context begins old new answer done value is known given m u k = absurd (false≢true (sym known ∙ ap (λ (r : Result Value HostError). finds_nothing r) m))
begun (Some q) program environment context begins old new answer done value is known given m u k = record {
  program = ap (λ (w : WaitingRun). w.program) is;
  environment = ap (λ (w : WaitingRun). w.environment) is;
  context = ap (λ (w : WaitingRun). w.context) is;
  given = ap (λ (w : WaitingRun). replies_of w.stops) is ∙ given;
  stands = subst (λ (w : WaitingRun). WaitsIfAsks q [] done (waiting_call_of w.stops)) (sym is) (stands_kept q [] answer done value (waiting_call_of begins) m k);
  used = subst (λ (w : WaitingRun). UsesWithin q.limits (used_of w.stops)) (sym is) u;
}

-- a reply that was given, and the run that went on
goes_on : (Is : Reply → Type 0) (q : RunInputs) (old : WaitingRun) (mid : Stops) (new : WaitingRun) (r : Reply) (done : Result (Unit {0}) HostError) (value : Value)
    → IsReplied old.stops mid r → Is r → IsSameRun old new → replies_of new.stops ≡ replies_of mid
    → RunServes q (replies_of mid) done value → WaitsIfAsks q (replies_of mid) done (waiting_call_of new.stops) → UsesWithin q.limits (used_of new.stops) → GoesOnWith Is q old new done value
goes_on Is q old mid new r done value replied is run given runs stands used = record {
  stop = replied.stop;
  waited = replied.waited;
  reply = r;
  is = is;
  given = given ∙ replied.given;
  run = run;
  stands = subst (λ (x : List CallReply). WaitsIfAsks q x done (waiting_call_of new.stops)) (sym given) stands;
  runs = subst (λ (x : List CallReply). RunServes q x done value) (sym given) runs;
  used = used;
}

by_ending : (Is : Reply → Type 0) (q : RunInputs) (old new : WaitingRun) (done : Result (Unit {0}) HostError) (value : Value) → GoesOnWith Is q old new done value → RunGoesOn Is (Some q) old new done value
by_ending Is q old new (Ok v) value g = g
by_ending Is q old new (Err (Language error)) value g = inr g
by_ending Is q old new (Err Unknown) value g = absurd g.runs
by_ending Is q old new (Err (Misuse why)) value g = absurd g.runs
by_ending Is q old new (Err Asks) value g = g
by_ending Is q old new (Err Differs) value g = g
by_ending Is q old new (Err (Stopped limit)) value g = g

pub replied_by : (Is : Reply → Type 0) (o : Option RunInputs) (old : WaitingRun) (mid : Stops) (new : WaitingRun) (r : Reply) (done : Result (Unit {0}) HostError) (value : Value)
    → IsSome o → IsReplied old.stops mid r → Is r → IsSameRun old new → replies_of new.stops ≡ replies_of mid
    → MatchOption o (done ≡ Err Unknown) (λ q. RunServes q (replies_of mid) done value) → MatchOption o (done ≡ Err Unknown) (λ q. WaitsIfAsks q (replies_of mid) done (waiting_call_of new.stops))
    → MatchOption o (done ≡ Err Unknown) (λ q. UsesWithin q.limits (used_of new.stops)) → RunGoesOn Is o old new done value
replied_by Is None old mid new r done value some replied is run given runs stands used = absurd (false≢true some)
replied_by Is (Some q) old mid new r done value some replied is run given runs stands used =
    by_ending Is q old new done value (goes_on Is q old mid new r done value replied is run given runs stands used)

-- an error is passed on
pub passed_on : (Is : Reply → Type 0) (o : Option RunInputs) (old new : WaitingRun) (r : Result (Unit {0}) HostError) (e : HostError) (value : Value) → IsErrAnd r (λ x. x ≡ e) → RunGoesOn Is o old new (Err e) value → RunGoesOn Is o old new r value
passed_on Is o old new (Ok v) e value is p = absurd is
passed_on Is o old new (Err x) e value is p = subst (λ (y : HostError). RunGoesOn Is o old new (Err y) value) (sym is) p

-- a handle that finds nothing, and what stands for no reply, leave the call that waits
pub left_waiting : {why : Wrong} (Is : Reply → Type 0) (o : Option RunInputs) (old new : WaitingRun) (e : HostError) (value : Value) → new ≡ old → (e ≡ Unknown) ⊎ (e ≡ Misuse why) → RunGoesOn Is o old new (Err e) value
left_waiting Is o old new e value same (inl is) = subst (λ (x : HostError). RunGoesOn Is o old new (Err x) value) (sym is) same
left_waiting Is o old new e value same (inr is) = subst (λ (x : HostError). RunGoesOn Is o old new (Err x) value) (sym is) same

-- a reply of one sort is one of another
weaker : (Is Js : Reply → Type 0) → ((r : Reply) → Is r → Js r) → (o : Option RunInputs) (old new : WaitingRun) (done : Result (Unit {0}) HostError) (value : Value)
    → IsSomeAnd o (λ q. GoesOnWith Is q old new done value) → IsSomeAnd o (λ q. GoesOnWith Js q old new done value)
weaker Is Js f None old new done value g = absurd g
weaker Is Js f (Some q) old new done value g = record {
  stop = g.stop;
  waited = g.waited;
  reply = g.reply;
  is = f g.reply g.is;
  given = g.given;
  run = g.run;
  stands = g.stands;
  runs = g.runs;
  used = g.used;
}

pub replies_so : (Is Js : Reply → Type 0) → ((r : Reply) → Is r → Js r) → (o : Option RunInputs) (old new : WaitingRun) (done : Result (Unit {0}) HostError) (value : Value) → RunGoesOn Is o old new done value → RunGoesOn Js o old new done value
replies_so Is Js f o old new (Ok v) value r = weaker Is Js f o old new (Ok v) value r
replies_so Is Js f o old new (Err (Language error)) value (inl r) = inl r
replies_so Is Js f o old new (Err (Language error)) value (inr r) = inr (weaker Is Js f o old new (Err (Language error)) value r)
replies_so Is Js f o old new (Err Unknown) value r = r
replies_so Is Js f o old new (Err (Misuse why)) value r = r
replies_so Is Js f o old new (Err Asks) value r = weaker Is Js f o old new (Err Asks) value r
replies_so Is Js f o old new (Err Differs) value r = weaker Is Js f o old new (Err Differs) value r
replies_so Is Js f o old new (Err (Stopped limit)) value r = weaker Is Js f o old new (Err (Stopped limit)) value r

-- the value that was built last is an answer
pub built_last : (values front : List Value) (v : Value) → values ≡ front ++ v ∷ [] → (r : Reply) → r ≡ reply.Value v → IsAnswer values r
built_last values front v stood r is = subst (λ (x : Reply). IsAnswer values x) (sym is) (record { front = front; stood = stood })

-- the ending of a run that has a result
pub ended_so : (Is : Reply → Type 0) (o : Option RunInputs) (old new : WaitingRun) (value : Value) → RunGoesOn Is o old new (Ok tt) value → IsSomeAnd o (λ q. RunMayAnswer q (replies_of new.stops) (Ok value))
ended_so Is None old new value g = absurd g
ended_so Is (Some q) old new value g = g.runs

-- whether a run's handles find what it wants, by what is known of them
pub known_some : (o : Option RunInputs) (r : Result (Unit {0}) HostError) → MatchOption o (r ≡ Err Unknown) (λ _. IsOk r) → OnOk r (IsSome o)
known_some None (Ok v) m = let no : ⊥ = cc m in absurd no
known_some None (Err e) m = tt
known_some (Some q) (Ok v) m = refl
known_some (Some q) (Err e) m = tt

pub stale_unknown : (o : Option RunInputs) (r : Result (Unit {0}) HostError) → MatchOption o (r ≡ Err Unknown) (λ _. IsOk r) → o ≡ None → r ≡ Err Unknown
stale_unknown None r m is = m
stale_unknown (Some q) r m is = let no : ⊥ = cc is in absurd no

pub unknown_none : (o : Option RunInputs) (r : Result (Unit {0}) HostError) → MatchOption o (r ≡ Err Unknown) (λ _. IsOk r) → r ≡ Err Unknown → o ≡ None
unknown_none None r m is = refl
unknown_none (Some q) (Ok v) m is = let no : ⊥ = cc is in absurd no
unknown_none (Some q) (Err e) m is = absurd (false≢true m)

pub known_refused : (o : Option RunInputs) (r : Result (Unit {0}) HostError) → MatchOption o (r ≡ Err Unknown) (λ _. IsOk r) → IfErr r (λ e. (e ≡ Unknown) ⊎ (e ≡ Misuse wrong.NoCallWaits))
known_refused None (Ok v) m = tt
known_refused None (Err e) m = inl (cc m)
known_refused (Some q) (Ok v) m = tt
known_refused (Some q) (Err e) m = absurd (false≢true m)

pub known_meant : (o : Option RunInputs) (r : Result (Unit {0}) HostError) → MatchOption o (r ≡ Err Unknown) (λ _. IsOk r) → (why : Wrong) → r ≡ Err (Misuse why) → ⊥
known_meant None r m why is = let no : ⊥ = cc (m, is) in no
known_meant (Some q) (Ok v) m why is = let no : ⊥ = cc is in no
known_meant (Some q) (Err e) m why is = false≢true m

-- and a run is never misused
pub run_meant : (o : Option RunInputs) (given : List CallReply) (r : Result (Unit {0}) HostError) (value : Value) → MatchOption o (r ≡ Err Unknown) (λ q. RunServes q given r value) → IfErr r (λ e. (why : Wrong) → e ≢ Misuse why)
run_meant None given (Ok v) value m = tt
run_meant None given (Err e) value m = λ why is. cc (m, is)
run_meant (Some q) given (Ok v) value m = tt
run_meant (Some q) given (Err (Language error)) value m = λ why is. cc is
run_meant (Some q) given (Err Unknown) value m = λ why is. cc is
run_meant (Some q) given (Err (Misuse was)) value m = absurd m
run_meant (Some q) given (Err Asks) value m = λ why is. cc is
run_meant (Some q) given (Err Differs) value m = λ why is. cc is
run_meant (Some q) given (Err (Stopped limit)) value m = λ why is. cc is

-- a run that found all three doesn't have this error
pub found_ends : (o : Option RunInputs) (given : List CallReply) (r : Result (Unit {0}) HostError) (value : Value) → IsSome o → MatchOption o (r ≡ Err Unknown) (λ q. RunServes q given r value) → IfErr r (λ e. e ≢ Unknown)
found_ends None given r value some m = absurd (false≢true some)
found_ends (Some q) given (Ok v) value some m = tt
found_ends (Some q) given (Err (Language error)) value some m = λ is. cc is
found_ends (Some q) given (Err Unknown) value some m = absurd m
found_ends (Some q) given (Err (Misuse why)) value some m = absurd m
found_ends (Some q) given (Err Asks) value some m = λ is. cc is
found_ends (Some q) given (Err Differs) value some m = λ is. cc is
found_ends (Some q) given (Err (Stopped limit)) value some m = λ is. cc is
