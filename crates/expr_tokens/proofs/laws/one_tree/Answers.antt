use Rattle.expr_tokens.proofs.Complete.{one_tree}
use Rattle.expr_tokens.proofs.laws.one_tree.Goals as goal

pub returns : goal.returns
returns c = one_tree
