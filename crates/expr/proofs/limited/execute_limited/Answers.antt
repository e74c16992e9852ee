use Rattle.std.proofs.Common.{List, string_bytes}
use Rattle.expr_code.specs.Instructions.{Op}
use Rattle.expr_lowering.specs.Blocks.{blocks_of}
use Rattle.expr_meaning.specs.Host.{no_host}
use Rattle.expr_context.specs.Context.{ContextView}
use Rattle.expr_meaning.specs.World.{world_of}
use Rattle.expr.proofs.Ending.{code_answers}
use Rattle.expr_machine.proofs.Patterns.{no_host_never}
use Rattle.expr.proofs.limited.execute_limited.Goals as goal

pub returns-clause-code : goal.returns-clause-code
returns-clause-code g c =
    let asked = goal.ContextProvider-dyn g c.args.ctx.now in
    let base : ContextView = asked.context c.args.ctx.now.1 in
    let blocks : List (List Op) = blocks_of g.L.Pointer.held (λ n. string_bytes (g.N.Pointer.held n)) c.args.code.now in
    record {
      outcome = c.execute_limited_with.ensures.code.outcome;
      answer = code_answers (world_of no_host base) blocks c.args.limits.now c.execute_limited_with.result c.execute_limited_with.ensures.code.outcome;
      depth = c.execute_limited_with.ensures.code.depth;
      pattern = c.execute_limited_with.ensures.code.pattern;
    }

pub returns-clause-never : goal.returns-clause-never
returns-clause-never g c = no_host_never
