use Rattle.std.proofs.Common.{◌≡◌}
use Rattle.expr_context.specs.Context.{ContextView}
use Rattle.expr_explain.specs.Layers.{names_inside}
use Rattle.expr_explain.proofs.layer.look_in_layers.Given as goal

abbrev pub invariant-loop-value : goal.invariant-loop-value
invariant-loop-value g l = (ctx : ContextView) → (names_inside l.at ctx).value_of l.key ≡ (names_inside l.layer ctx).value_of l.key
