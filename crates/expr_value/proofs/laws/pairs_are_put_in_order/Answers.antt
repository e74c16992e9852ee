use Rattle.std.specs.Cmp.Lexicographic.{nat_list_cmp_total, slice_cmp}
use Rattle.std.specs.Ordering.{nat_cmp}
use Rattle.expr_value.specs.Keys.{key_cmp}
use Rattle.expr_value.specs.Sorted.{by_key}
use Rattle.expr_value.specs.contracts.key.KeyOrd.TheImpl.Laws as order_laws
use Rattle.expr_value.proofs.InOrder.{sorted_items-rises, sorted_items-same}
use Rattle.expr_value.proofs.laws.pairs_are_put_in_order.Goals as goal

pub returns-clause-names : goal.returns-clause-names
returns-clause-names c = sorted_items-rises (slice_cmp nat_cmp) nat_list_cmp_total

pub returns-clause-same_names : goal.returns-clause-same_names
returns-clause-same_names c = sorted_items-same (by_key (slice_cmp nat_cmp))

pub returns-clause-keys : goal.returns-clause-keys
returns-clause-keys c = sorted_items-rises key_cmp order_laws.total-law

pub returns-clause-same_keys : goal.returns-clause-same_keys
returns-clause-same_keys c = sorted_items-same (by_key key_cmp)
