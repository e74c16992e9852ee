use Rattle.std.proofs.Common.{List}
use Rattle.std.specs.Option.{option_copied}
use Rattle.expr_code.specs.Instructions.{Op}
use Rattle.expr_lowering.specs.OwnedCodes.{owned_blocks}
use Rattle.expr_context.specs.Contexts.{context_of}
use Rattle.expr_engine.specs.Runs.{names_or_none}
use Rattle.expr_engine.proofs.Given.{given_within}
use Rattle.expr_meaning.specs.World.{World, world_of}
use Rattle.expr_tree.specs.TermOf.{program_term}
use Rattle.expr_engine.proofs.rule.Rule.run.Goals as goal

pub returns-clause-answer : goal.returns-clause-answer
returns-clause-answer g c =
    let world : World = world_of (g.H.Functions.host c.args.host.now) (context_of (names_or_none (option_copied c.args.names.names))) in
    let code : List (List Op) = owned_blocks c.args.self.now.code in
    given_within c.args.limits world (program_term c.args.self.now.program) code c.execute_in.result.went c.args.self.now.lowered c.execute_in.ensures.ends
