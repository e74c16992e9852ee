use Rattle.expr_context.specs.Context.{ContextView}
use Rattle.expr_meaning.specs.World.{world_of}
use Rattle.expr_stops.specs.Stops.{AllowedWhereAgreed}
use Rattle.expr_stops.proofs.Replied.{refused_so}
use Rattle.expr_tree.specs.TermOf.{program_term}
use Rattle.expr_stops.proofs.replays.run_in.Goals as goal

pub returns-in_err-run_with-clause-independent : goal.returns-in_err-run_with-clause-independent
returns-in_err-run_with-clause-independent g c =
    let asked = goal.ContextProvider-dyn g c.args.ctx.now in
    let base : ContextView = asked.context c.args.ctx.now.1 in
    let b = program_term c.args.program.now in
    refused_so c.in_err-run_with.field-0.0 (AllowedWhereAgreed (world_of (g.H.Functions.host c.args.host.now) base) b) c.from_residual.result c.in_err-run_with.ensures.independent c.from_residual.ensures.1
