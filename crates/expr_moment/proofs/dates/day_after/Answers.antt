use Rattle.std.proofs.Common.{arith, rules, ◌≡◌, ◌+ℤ◌}
use Rattle.std.proofs.Math.Path.{subst}
use Rattle.jiff_core.proofs.SignedLemmas.{signed_arith}
use Rattle.jiff.specs.Words.{epoch_day, IsEpochDay}
use Rattle.jiff.proofs.Family.{epoch_day_range}
use Rattle.expr_moment.proofs.dates.day_after.Goals as goal

pub returns-then-days-ltminus8000000 : goal.returns-then-days-ltminus8000000
returns-then-days-ltminus8000000 c = λ h. omega (arith, signed_arith, epoch_day_range c.args.first, c.if-days-ltminus8000000.true, h.0)

pub returns-then-days-gt8000000 : goal.returns-then-days-gt8000000
returns-then-days-gt8000000 c = λ h. omega (arith, signed_arith, epoch_day_range c.args.first, c.if-days-gt8000000.true, h.1)

pub returns-in-Ok : goal.returns-in-Ok
returns-in-Ok c =
    let same : epoch_day c.from_plain.result ≡ epoch_day c.args.first +ℤ c.args.days = search rules in
    (same, subst IsEpochDay same (epoch_day_range c.from_plain.result))
