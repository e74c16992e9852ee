use Rattle.std.proofs.Common.{List, string_bytes}
use Rattle.expr_code.specs.Instructions.{Op}
use Rattle.expr_lowering.specs.Blocks.{blocks_of}
use Rattle.expr_meaning.specs.Host.{Host}
use Rattle.expr_context.specs.Context.{ContextView}
use Rattle.expr_meaning.specs.World.{world_of}
use Rattle.expr.specs.Hosted.{host_of}
use Rattle.expr.proofs.Ending.{code_answers}
use Rattle.expr.proofs.environment.Environment.execute_limited.Goals as goal

pub returns : goal.returns
returns g c =
    let asked = goal.ContextProvider-dyn g c.args.ctx.now in
    let base : ContextView = asked.context c.args.ctx.now.1 in
    let host : Host = host_of c.args.self.now in
    let blocks : List (List Op) = blocks_of g.L.Pointer.held (λ n. string_bytes (g.N.Pointer.held n)) c.args.code.now in
    record {
      outcome = c.execute_limited_with.ensures.code.outcome;
      answer = code_answers (world_of host base) blocks c.args.limits.now c.execute_limited_with.result c.execute_limited_with.ensures.code.outcome;
      depth = c.execute_limited_with.ensures.code.depth;
      pattern = c.execute_limited_with.ensures.code.pattern;
    }
