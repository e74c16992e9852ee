use Rattle.std.proofs.Common.{◌≡◌, ◌++◌, reverse}
use Rattle.expr_builtins.specs.Nested.{all_flat_items}
use Rattle.expr_builtins.proofs.Opening.{weights}
use Rattle.expr_builtins.proofs.nested.flat_items.Given as goal

abbrev pub invariant-loop-value : goal.invariant-loop-value
invariant-loop-value l = l.found.items ++ all_flat_items (reverse l.waiting.items) ≡ all_flat_items l.fn.values.items

abbrev pub decreases-loop-value : goal.decreases-loop-value
decreases-loop-value l = weights l.waiting.items
