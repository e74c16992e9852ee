use Rattle.std.proofs.Common.{◌≡◌, map, take}
use Rattle.expr_builtins.specs.Collections.{named_pair}
use Rattle.expr_builtins.proofs.collection.named_pairs.Given as goal

abbrev pub invariant-loop-i : goal.invariant-loop-i
invariant-loop-i l = l.items.items ≡ map named_pair (take l.i l.pairs)
