use Rattle.std.proofs.Common.{◌≡◌, ◌++◌}
use Rattle.expr_exchange.specs.Maps.{AreSplit, pairs_of}
use Rattle.expr_exchange.proofs.InTurn.{in_turn, pending}
use Rattle.expr_exchange.proofs.map_pairs.map_of.Given as goal

abbrev pub invariant-loop-value : goal.invariant-loop-value
invariant-loop-value l = record { so_far : l.yielded ≡ in_turn (pairs_of l.pairs) ++ pending l.key; split : AreSplit l.pairs }
