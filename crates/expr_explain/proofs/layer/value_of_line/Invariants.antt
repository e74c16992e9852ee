use Rattle.std.proofs.Common.{◌≡◌, ◌≤◌, length, take}
use Rattle.expr_context.specs.Context.{ContextView}
use Rattle.expr_explain.specs.Layers.{with_lines}
use Rattle.expr_explain.proofs.layer.value_of_line.Given as goal

abbrev pub invariant-loop-count : goal.invariant-loop-count
invariant-loop-count l =
    record {
      within : l.count ≤ length l.lines;
      passed : (ctx : ContextView) → (with_lines (take l.count l.lines) ctx).value_of l.key ≡ (with_lines l.lines ctx).value_of l.key;
    }

abbrev pub decreases-loop-count : goal.decreases-loop-count
decreases-loop-count l = l.count
