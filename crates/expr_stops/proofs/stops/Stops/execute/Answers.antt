use Rattle.std.proofs.Common.{◌≢◌, List, subst}
use Rattle.expr_code.specs.Instructions.{Op}
use Rattle.expr_limits.specs.Outcomes.{ReturnsOutcome}
use Rattle.expr_lowering.specs.Blocks.{blocks_of}
use Rattle.expr_acts.specs.Texts.{text_of}
use Rattle.expr_meaning.specs.Host.{Host}
use Rattle.expr_context.specs.Context.{ContextView}
use Rattle.expr_meaning.specs.World.{world_of}
use Rattle.expr_stops.specs.Stops.{CodeComes, EndsTurn, host_replying, is_named}
use Rattle.expr_stops.proofs.Replied.{answers_by, refused_as, turned}
use Rattle.expr_error.specs.ErrorKind.{error_kind, pattern}
use Rattle.expr_stops.proofs.stops.Stops.execute.Goals as goal

pub returns-clause-ends : goal.returns-clause-ends
returns-clause-ends g c =
    let ctx : ContextView = g.P.ContextProvider.context c.args.provider in
    let code : List (List Op) = blocks_of g.L.Pointer.held (text_of g.N.Pointer.held) c.args.code.now in
    turned c.play_code-played.result.went c.turn.result (
    CodeComes c.args.limits (world_of (host_replying (g.H.Functions.host c.args.host.now) (is_named c.args.names.now) c.args.self.now.given.items) ctx) code
    ) (subst (λ given. ReturnsOutcome c.play_code-played.result.went (
    CodeComes c.args.limits (world_of (host_replying (g.H.Functions.host c.args.host.now) (is_named c.args.names.now) given) ctx) code
    )) c.deref.ensures.value c.play_code-played.ensures.ends) c.turn.ensures.went

pub returns-clause-ended : goal.returns-clause-ended
returns-clause-ended g c =
    let ctx : ContextView = g.P.ContextProvider.context c.args.provider in
    let code : List (List Op) = blocks_of g.L.Pointer.held (text_of g.N.Pointer.held) c.args.code.now in
    let host : Host = host_replying (g.H.Functions.host c.args.host.now) (is_named c.args.names.now) c.args.self.now.given.items in
    let ends : EndsTurn c.turn.result (CodeComes c.args.limits (world_of host ctx) code) = returns-clause-ends g c in
    answers_by c.args.limits (world_of host ctx) code c.turn.result ends

pub returns-clause-pattern : goal.returns-clause-pattern
returns-clause-pattern g c = λ never keeps.
    refused_as c.play_code-played.result.went c.turn.result (λ e. error_kind e ≢ pattern) (c.play_code-played.ensures.pattern never keeps) c.turn.ensures.went
