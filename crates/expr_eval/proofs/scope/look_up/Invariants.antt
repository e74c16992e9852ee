use Rattle.std.proofs.Common.{◌≡◌}
use Rattle.expr_context.specs.Context.{ContextView}
use Rattle.expr_eval.specs.Scope.{context_in}
use Rattle.expr_eval.proofs.scope.look_up.Given as goal

abbrev pub invariant-loop-value : goal.invariant-loop-value
invariant-loop-value g l = (ctx : ContextView) → (context_in l.at ctx).value_of l.key ≡ (context_in l.scope ctx).value_of l.key
