use Rattle.expr_tree.specs.TermOf.{program_term}
use Rattle.expr_text.proofs.Written.{program_written}
use Rattle.expr_text.proofs.write.to_code.Goals as goal

pub returns-clause-program : goal.returns-clause-program
returns-clause-program c =
    program_written (program_term c.args.program.now) c.write_text.result c.write_text.ensures.text c.write_text.ensures.stands
