-- The values of names inside a scope: those of the provider, with the inner bindings.
use Rattle.std.specs.Prelude.{List, [], ◌∷◌, Option, Some, None}
use denote.Ref.{Bor}
use Rattle.expr_context.specs.Told.{PredicateArgsView}
use Rattle.expr_context.specs.Context.{ContextView, override}
use Rattle.expr_context.specs.Lookups.{predicate_context}
use Rattle.expr_eval.specs.declared.scope.Binding.{Binding}
use Rattle.expr_eval.specs.declared.scope.PredicateArgs.{PredicateArgs}
use Rattle.expr_eval.specs.declared.scope.Scope.{Scope, fold-Scope}
use Rattle.expr_eval.specs.declared.scope.Scope.TheOpen.{Scope-F}

-- what a predicate gets for one item
abbrev pub args_view : PredicateArgs → PredicateArgsView
args_view q = record { item = q.item.now; index = q.index; acc = q.acc }

-- the context with bindings, of which the last is the innermost
abbrev pub with_bindings : List Binding → ContextView → ContextView
with_bindings [] ctx = ctx
with_bindings (b ∷ bs) ctx = with_bindings bs (override ctx b.name.now b.value)

-- the bindings of a block are inside those around it
abbrev pub in_outer : Option (Bor (ContextView → ContextView)) → ContextView → ContextView
in_outer None ctx = ctx
in_outer (Some outer) ctx = outer.now ctx

-- in a predicate, `#` and what goes with it are inside them too
abbrev pub in_predicate : Option PredicateArgs → ContextView → ContextView
in_predicate None ctx = ctx
in_predicate (Some q) ctx = predicate_context ctx (args_view q)

abbrev pub scope_step : Scope-F (ContextView → ContextView) → ContextView → ContextView
scope_step s ctx = with_bindings s.bindings.items (in_predicate s.predicate_args (in_outer s.outer ctx))

-- the context inside a scope
abbrev pub context_in : Scope → ContextView → ContextView
context_in = fold-Scope (ContextView → ContextView) scope_step
