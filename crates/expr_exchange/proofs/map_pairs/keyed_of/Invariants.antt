use Rattle.std.proofs.Common.{◌≡◌, map}
use Rattle.expr_exchange.specs.Maps.{pair_by_name}
use Rattle.expr_exchange.proofs.map_pairs.keyed_of.Given as goal

abbrev pub invariant-loop-name : goal.invariant-loop-name
invariant-loop-name l = l.keyed.items ≡ map pair_by_name l.yielded
