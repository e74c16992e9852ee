use Rattle.std.proofs.Common.{◌≡◌, Some}
use Rattle.expr_arguments.specs.Arguments.{all_of}
use Rattle.expr_builtins.specs.Collections.{pair_of}
use Rattle.expr_builtins.proofs.collection.pairs_of_items.Given as goal

abbrev pub invariant-loop-item : goal.invariant-loop-item
invariant-loop-item l = all_of pair_of l.yielded ≡ Some l.pairs.items
