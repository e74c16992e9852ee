use Rattle.expr_functions.proofs.functions.of_six.Goals as goal

pub returns : goal.returns
returns c = c.builtin_in.ensures
