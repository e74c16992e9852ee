use Rattle.std.proofs.Common.{◌∙◌}
use Rattle.expr_encoding.proofs.Lent.{found_lent}
use Rattle.expr_encoding.proofs.members.find_lent.Goals as goal

pub returns : goal.returns
returns c = c.get.ensures.value ∙ found_lent c.args.name.now c.args.lent.now.entries
