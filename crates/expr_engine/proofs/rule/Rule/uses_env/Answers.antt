use Rattle.std.specs.List.{Contains}
use Rattle.expr_tree.specs.Names.{block_operands, env}
use Rattle.expr_tree.specs.TermOf.{program_term}
use Rattle.expr_engine.proofs.Told.{tells}
use Rattle.expr_engine.proofs.rule.Rule.uses_env.Goals as goal

pub returns-clause-ok : goal.returns-clause-ok
returns-clause-ok c =
    tells (Contains (block_operands (program_term c.args.self.now.program)) env) c.in_ok-uses_env.field-0 c.from.result c.in_ok-uses_env.ensures.ok c.from.ensures
