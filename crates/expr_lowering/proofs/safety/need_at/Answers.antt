use Rattle.std.proofs.Common.{arith}
use Rattle.expr_lowering.proofs.Needing.{need_within, none_beyond}
use Rattle.expr_lowering.proofs.safety.need_at.Goals as goal

pub returns-then-passed-needs : goal.returns-then-passed-needs
returns-then-passed-needs c = need_within c.args.needs.now c.args.passed _ c.if-passed-needs.true

pub returns-else-passed-needs : goal.returns-else-passed-needs
returns-else-passed-needs c first stack slots = (
  (λ m. absurd (omega (arith, m.1))),
  (λ w. absurd (none_beyond c.args.needs.now c.args.passed c.if-passed-needs.false first stack slots w)),
)
