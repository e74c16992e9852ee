use Rattle.expr_tree.specs.TermOf.{term_of, program_term}
use Rattle.expr_text.proofs.Expanding.{choice_expands}
use Rattle.expr_text.proofs.node_parts.put_choice.Goals as goal

pub returns : goal.returns
returns c =
    choice_expands c.args.place (term_of c.args.condition.now) (program_term c.args.consequent.now) (program_term c.args.alternative.now) _ c.apart.ensures c.in_ok-put_three.ensures c.in_ok-put_three-2.ensures
