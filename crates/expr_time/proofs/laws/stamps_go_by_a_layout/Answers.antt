use Rattle.expr_time.proofs.StampTokens.{stamp_is}
use Rattle.expr_time.proofs.laws.stamps_go_by_a_layout.Goals as goal

pub returns : goal.returns
returns c = stamp_is
