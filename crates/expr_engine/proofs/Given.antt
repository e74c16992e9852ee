-- What is given by a code of which it is only known that it is a program's.
use Rattle.std.proofs.Common.{◌≡◌, List, Option, None, Some, Result, Ok, Err, subst, sym}
use Rattle.std.proofs.Math.Logic.{∥∥₁_map}
use Rattle.expr_machine.specs.Given.{MayGive as GivesWithin}
use Rattle.expr_meaning.proofs.Contracts.{executed_allowed}
use Rattle.expr_meaning.proofs.Correct.{exact_code}
use Rattle.expr_code.specs.Codes.{IsCode}
use Rattle.expr_code.specs.Instructions.{Op}
use Rattle.expr_meaning.specs.CodeRuns.{CodeAnswers}
use Rattle.expr_engine.specs.Runs.{MeaningAllows, added_by, host_by, host_with_replies, named_by, names_in}
use Rattle.expr_engine.specs.declared.additions.Additions.{Additions}
use Rattle.expr_limits.specs.Outcomes.{ReturnsOutcome}
use Rattle.expr_meaning.specs.Host.{Host}
use Rattle.expr_limits.specs.Rooms.{unlimited}
use Rattle.expr_limits.specs.declared.limits.Limits.{Limits}
use Rattle.expr_limits.specs.declared.outcome.Outcome.{Outcome}
use Rattle.expr_limits.specs.declared.outcome.Outcome.TheVariants.{Answered, Stopped as at_limit}
use Rattle.expr_stops.proofs.Replied.{answers_by, comes_answers}
use Rattle.expr_stops.specs.Stops.{CodeComes, EndsTurn, IfEnded, StopsWell, host_replying, is_named}
use Rattle.expr_stops.specs.declared.replies.CallReply.{CallReply}
use Rattle.expr_stops.specs.declared.names.StopNames.{StopNames}
use Rattle.expr_stops.specs.declared.replay.Stop.{Stop}
use Rattle.expr_stops.specs.declared.stops.RunStatus.{RunStatus}
use Rattle.expr_stops.specs.declared.stops.RunStatus.TheVariants.{Ended, Asks, Differs, Stopped}
use Rattle.expr_tree.specs.Term.{Block}
use Rattle.expr_value.specs.Answers.{Returns}
use Rattle.expr_meaning.specs.World.{World}
use Rattle.expr_error.specs.ErrorKind.{ErrorKind, error_kind}
use Rattle.expr_error.specs.declared.error.Error.{Error}
use Rattle.expr_value.specs.declared.value.Value.{Value}

gives_merely : {A C : Type 0} (r : Result A Error) (allowed : Result A ErrorKind → Type 0) → ∥ C ∥₁ → (C → Returns r allowed) → Returns r (λ a. ∥ allowed a ∥₁)
gives_merely (Ok v) allowed c given = ∥∥₁_map c given
gives_merely (Err e) allowed c given = λ n. ∥∥₁_map c (λ x. given x n)

-- the program allows the ending of its code
pub given_within : (limits : Option Limits) (world : World) (b : Block) (code : List (List Op)) (r : Result (Outcome Value) Error) → ∥ IsCode b code ∥₁
    → ReturnsOutcome r (CodeComes limits world code) → GivesWithin r (MeaningAllows world b)
given_within limits world b code (Ok (Answered v)) lowered p =
    ∥∥₁_map lowered (λ is. (exact_code world b code is (Ok v)).0 (comes_answers limits world code (Ok v) p.0 p.1))
given_within limits world b code (Ok (at_limit limit)) lowered p = tt
given_within limits world b code (Err e) lowered p = λ m.
    ∥∥₁_map lowered (λ is. (exact_code world b code is (Err (error_kind e))).0 (comes_answers limits world code (Err (error_kind e)) unlimited (p m)))

-- a run that ended, in any host
turned_merely : (t : RunStatus) (world : World) (b : Block) (code : List (List Op)) → ∥ IsCode b code ∥₁
    → IfEnded t (λ r. Returns r (CodeAnswers world code)) → IfEnded t (λ r. Returns r (MeaningAllows world b))
turned_merely (Ended r) world b code lowered given = gives_merely r _ lowered (λ is. executed_allowed world r b code is given)
turned_merely Asks world b code lowered given = tt
turned_merely (Differs stop) world b code lowered given = tt
turned_merely (Stopped limit) world b code lowered given = tt

pub turned_within : (limits : Option Limits) (t : RunStatus) (world : World) (b : Block) (code : List (List Op)) → ∥ IsCode b code ∥₁
    → EndsTurn t (CodeComes limits world code) → IfEnded t (λ r. Returns r (MeaningAllows world b))
turned_within limits t world b code lowered p = turned_merely t world b code lowered (answers_by limits world code t p)

-- what holds in the host of an environment's names and replies, holds in what the environment adds
pub hosted_in : (P : Host → Type 0) (o : Option Additions) (added : Additions) (names : StopNames) (given : List CallReply) → o ≡ Some added → names ≡ names_in added
    → P (host_replying (host_by o) (is_named names) given) → P (host_with_replies o given)
hosted_in P o added names given is same p =
    subst (λ (x : Option Additions). P (host_with_replies x given)) (sym is) (subst (λ (n : StopNames). P (host_replying (added_by added) (is_named n) given)) same
    (subst (λ (x : Option Additions). P (host_replying (host_by x) (is_named names) given)) is p))

-- and what holds where nothing is added, holds with any replies
pub unhosted_in : (P : Host → Type 0) (o : Option Additions) (given : List CallReply) → o ≡ None → P (host_by o) → P (host_with_replies o given)
unhosted_in P o given is p = subst (λ (x : Option Additions). P (host_with_replies x given)) (sym is) (subst (λ (x : Option Additions). P (host_by x)) is p)

pub stops_in : (t : RunStatus) (o : Option Additions) (added : Additions) (names : StopNames) (given : List CallReply) (waits : Option Stop) → o ≡ Some added → names ≡ names_in added
    → StopsWell (is_named names) given t waits → StopsWell (named_by o) given t waits
stops_in t o added names given waits is same p =
    subst (λ (x : Option Additions). StopsWell (named_by x) given t waits) (sym is) (subst (λ (n : StopNames). StopsWell (is_named n) given t waits) same p)
