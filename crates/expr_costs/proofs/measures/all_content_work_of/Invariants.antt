use Rattle.std.proofs.Common.{◌≡◌, ◌+◌, take}
use Rattle.expr_costs.specs.Measures.{all_content_work}
use Rattle.expr_costs.proofs.measures.all_content_work_of.Given as goal

abbrev pub invariant-loop-value : goal.invariant-loop-value
invariant-loop-value l = all_content_work (take l.value-index l.values) + l.left ≡ l.bound
