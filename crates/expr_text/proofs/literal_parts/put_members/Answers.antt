use Rattle.expr_text.proofs.ListExpanding.{no_keys}
use Rattle.expr_text.proofs.literal_parts.put_members.Goals as goal

pub returns-in-None : goal.returns-in-None
returns-in-None c = no_keys c.args.pending.now.items c.args.is_first c.args.keys.now c.args.values.now c.in-None.ensures.cases
