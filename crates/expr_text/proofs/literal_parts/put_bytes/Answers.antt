use Rattle.expr_text.proofs.ListExpanding.{all_bytes, bytes_expand}
use Rattle.expr_text.proofs.literal_parts.put_bytes.Goals as goal

pub returns : goal.returns
returns c = bytes_expand c.args.bytes.now (all_bytes c.args.bytes.now c.type_inv.bytes) c.in_ok-put.ensures
