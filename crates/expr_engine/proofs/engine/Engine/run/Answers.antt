use Rattle.std.proofs.Common.{◌≡◌, ◌∙◌, List, [], MatchOption, Result, Err, refl, subst, sym}
use Rattle.expr_engine.specs.Engines.{MayEnd, RunMayAnswer, run_inputs}
use Rattle.expr_engine.specs.Served.{RunServes}
use Rattle.expr_engine.specs.Turns.{IsNewRun, WaitsIfAsks}
use Rattle.expr_engine.proofs.Turned.{begun, nothing_found, went, where_none}
use Rattle.expr_exchange.specs.Cursor.{part_of}
use Rattle.expr_exchange.specs.Refusals.{ReturnsToHost}
use Rattle.expr_exchange.specs.declared.host_error.HostError.{HostError}
use Rattle.expr_exchange.specs.declared.host_error.HostError.TheVariants.{Unknown}
use Rattle.expr_limits.specs.Counting.{stops}
use Rattle.expr_stops.specs.Stops.{replies_of, waiting_call_of}
use Rattle.expr_stops.specs.declared.replies.CallReply.{CallReply}
use Rattle.expr_engine.proofs.engine.Engine.run.Goals as goal

pub returns-then-finds_nothing-clause-ended : goal.returns-then-finds_nothing-clause-ended
returns-then-finds_nothing-clause-ended c =
    let done : Result (Unit {0}) HostError = Err Unknown in
    let o = run_inputs c.args.self.now c.args.program c.args.environment c.args.context in
    where_none o (done ≡ Err Unknown) (λ q. RunServes q [] done (part_of c.args.self.now.answer))
    (nothing_found o (replies_of c.new-stops.result) c.turn-answer.result c.turn-answer.ensures.ended (sym c.finds_nothing.ensures ∙ c.if-finds_nothing.true)) refl

pub returns-then-finds_nothing-clause-begun : goal.returns-then-finds_nothing-clause-begun
returns-then-finds_nothing-clause-begun c =
    let done : Result (Unit {0}) HostError = Err Unknown in
    let o = run_inputs c.args.self.now c.args.program c.args.environment c.args.context in
    let waits = c.args.self.now.waits in
    where_none o (waits ≡ waits) (λ q. IsNewRun q c.args.program c.args.environment c.args.context done waits)
    (nothing_found o (replies_of c.new-stops.result) c.turn-answer.result c.turn-answer.ensures.ended (sym c.finds_nothing.ensures ∙ c.if-finds_nothing.true)) refl

pub returns-clause-ended : goal.returns-clause-ended
returns-clause-ended c =
    let o = run_inputs c.args.self.now c.args.program c.args.environment c.args.context in
    let answer = c.turn-answer.result in
    went o [] answer c.keep.result (part_of c.keep.new.self.answer)
    (subst (λ (given : List CallReply). MatchOption o (answer ≡ Err Unknown) (λ q. ReturnsToHost answer (RunMayAnswer q given) (λ limit. MayEnd q given (stops limit)))) c.new-stops.ensures.given c.turn-answer.ensures.ended)
    c.keep.ensures.passed

pub returns-clause-begun : goal.returns-clause-begun
returns-clause-begun c =
    let o = run_inputs c.args.self.now c.args.program c.args.environment c.args.context in
    let answer = c.turn-answer.result in
    let begins = c.turn-answer.new.stops in
    begun o c.args.program c.args.environment c.args.context begins c.args.self.now.waits c.keep.new.self.waits answer c.keep.result (part_of c.keep.new.self.answer)
    c.keep.ensures.waits (sym c.finds_nothing.ensures ∙ c.if-finds_nothing.false) (c.turn-answer.ensures.given ∙ c.new-stops.ensures.given)
    (subst (λ (given : List CallReply). MatchOption o (answer ≡ Err Unknown) (λ q. WaitsIfAsks q given answer (waiting_call_of begins))) c.new-stops.ensures.given (c.turn-answer.ensures.stops c.new-stops.ensures.asked))
    c.turn-answer.ensures.used c.keep.ensures.passed
