use Rattle.std.proofs.Common.{refl}
use Rattle.expr_rules.proofs.verdict.spot_of.Goals as goal

pub returns : goal.returns
returns c =
    record { at = c.in_ok-at.at; is_at = c.in_ok-at.ensures.ok; line = c.line_after.ensures; column = refl; shown = refl; ends = c.is_end.ensures }
