use Rattle.std.proofs.Common.{◌≤◌, arith, sym}
use Rattle.std.proofs.lemmas.Option.{slice_get_past}
use Rattle.expr_exchange.specs.Asks.{all_asks}
use Rattle.expr_exchange.proofs.call.Ask.from_number.Goals as goal

pub returns-in_default : goal.returns-in_default
returns-in_default c =
    let past : 39 ≤ c.args.number = omega (arith, c.in_default) in
    sym (slice_get_past all_asks c.args.number past)
