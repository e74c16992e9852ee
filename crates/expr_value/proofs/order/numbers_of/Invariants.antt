use Rattle.std.proofs.Common.{◌≡◌, map, take}
use Rattle.expr_value.specs.Sorted.{by_key, numbered_from, sorted_items}
use Rattle.expr_value.proofs.order.numbers_of.Given as goal

abbrev pub invariant-loop-i : goal.invariant-loop-i
invariant-loop-i g l = map (λ e. (e.0.now, e.1)) l.order.entries ≡ sorted_items (by_key g.K.Ord.cmp) (numbered_from 0 (take l.i l.keys))
