use Rattle.std.proofs.Common.{subst, sym}
use Rattle.expr_limits.specs.Outcomes.{ReturnsOutcome}
use Rattle.expr_lowering.specs.Blocks.{blocks_of}
use Rattle.expr_acts.specs.Texts.{text_of}
use Rattle.expr_meaning.specs.Refusals.{NeverRefusesWith}
use Rattle.expr_stops.specs.Stops.{CodeComes, is_named}
use Rattle.expr_stops.proofs.Replied.{answered_never, same_replay}
use Rattle.expr_error.specs.ErrorKind.{pattern}
use Rattle.expr_stops.proofs.replays.play_code.Goals as goal
use Rattle.expr_meaning.specs.World.{world_of}

pub returns-clause-ends : goal.returns-clause-ends
returns-clause-ends g c =
    same_replay (g.H.Functions.host) (λ h. ReturnsOutcome c.execute_in-went.result.went (
    CodeComes c.args.limits (world_of h (g.P.ContextProvider.context c.args.provider)) (blocks_of g.L.Pointer.held (text_of g.N.Pointer.held) c.args.code.now)
    )) _ _ _ _ _ _ c.new-replay.ensures.host c.new-replay.ensures.names c.new-replay.ensures.given c.execute_in-went.ensures.ends

pub returns-clause-pattern : goal.returns-clause-pattern
returns-clause-pattern g c = λ never keeps.
    c.execute_in-went.ensures.pattern (answered_never (g.H.Functions.host c.new-replay.result.host.now) (is_named c.new-replay.result.names.now) c.new-replay.result.given.now pattern (λ e. cc)
    (subst (λ h. NeverRefusesWith (g.H.Functions.host h) pattern) (sym c.new-replay.ensures.host) never)) keeps
