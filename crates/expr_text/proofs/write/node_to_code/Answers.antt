use Rattle.expr_tree.specs.TermOf.{term_of}
use Rattle.expr_text.proofs.Written.{node_written}
use Rattle.expr_text.proofs.write.node_to_code.Goals as goal

pub returns-clause-program : goal.returns-clause-program
returns-clause-program c =
    node_written (term_of c.args.node.now) c.apart.result c.apart.ensures c.write_text.result c.write_text.ensures.text c.write_text.ensures.stands
