-- Bindings, beside the context that they override.
use Rattle.std.proofs.Common.{◌≡◌, ℕ, List, [], ◌∷◌, ◌++◌, Option, Some, None, Ok, Vec, Global, true, false, bytes_eq, codes, refl, sym, subst, ap, ◌∙◌}
use Rattle.expr_context.specs.Context.{ContextView, override}
use Rattle.expr_context.specs.Lookups.{lookup_answer, with_binding}
use Rattle.expr_eval.specs.Scope.{in_predicate, context_in, with_bindings, scope_step, args_view}
use Rattle.expr_eval.specs.declared.scope.PredicateArgs.{PredicateArgs}
use Rattle.expr_value.specs.declared.value.Value as value
use Rattle.expr_value.specs.declared.value.Value.{Value}
use Rattle.expr_eval.specs.declared.scope.Binding.{Binding}
use Rattle.expr_eval.specs.declared.scope.Scope.{Scope, map-Scope, out-Scope, roll-Scope, roll-out-Scope, fold-roll-Scope, ind-Scope}
use denote.Ref.{Bor}

pub with_bindings-last : (bs : List Binding) (b : Binding) (ctx : ContextView)
    → with_bindings (bs ++ b ∷ []) ctx ≡ override (with_bindings bs ctx) b.name.now b.value
with_bindings-last [] b ctx = refl
with_bindings-last (x ∷ bs) b ctx = with_bindings-last bs b (override ctx x.name.now x.value)

module _ (bs : List Binding) (b : Binding) (ctx : ContextView) (key : List ℕ) where
  pub value_of-last : bytes_eq b.name.now key ≡ true → (with_bindings (bs ++ b ∷ []) ctx).value_of key ≡ Some b.value
  value_of-last same = rw (with_bindings-last bs b ctx, same)

  pub value_of-outer : bytes_eq b.name.now key ≡ false → (with_bindings (bs ++ b ∷ []) ctx).value_of key ≡ (with_bindings bs ctx).value_of key
  value_of-outer other = rw (with_bindings-last bs b ctx, other)

-- a walk from the innermost binding outwards, at a binding of the name and at another
module _ (all inner outer : List Binding) (b : Binding) (key : List ℕ)
    (walked : (ctx : ContextView) → (with_bindings inner ctx).value_of key ≡ (with_bindings all ctx).value_of key)
    (split : inner ≡ outer ++ b ∷ []) where
  pub walk-found : bytes_eq b.name.now key ≡ true → (ctx : ContextView) → Some b.value ≡ (with_bindings all ctx).value_of key
  walk-found same ctx =
      sym (value_of-last outer b ctx key same) ∙ ap (λ bs. (with_bindings bs ctx).value_of key) (sym split) ∙ walked ctx

  pub walk-on : bytes_eq b.name.now key ≡ false → (ctx : ContextView) → (with_bindings outer ctx).value_of key ≡ (with_bindings all ctx).value_of key
  walk-on other ctx =
      sym (value_of-outer outer b ctx key other) ∙ ap (λ bs. (with_bindings bs ctx).value_of key) (sym split) ∙ walked ctx

-- an override leaves the map
pub map_overridden : (bs : List Binding) (ctx : ContextView) → (with_bindings bs ctx).map ≡ ctx.map
map_overridden [] ctx = refl
map_overridden (b ∷ bs) ctx = map_overridden bs (override ctx b.name.now b.value)

-- what a predicate is asked about leaves it too
map_told : (ctx : ContextView) (key : List ℕ) (o : Option Value) → (with_binding ctx key o).map ≡ ctx.map
map_told ctx key None = refl
map_told ctx key (Some v) = refl

map_asking : (q : Option PredicateArgs) (ctx : ContextView) → (in_predicate q ctx).map ≡ ctx.map
map_asking None ctx = refl
map_asking (Some q) ctx = map_told (with_binding ctx (codes "#acc") (args_view q).acc) (codes "#index") (args_view q).index ∙ map_told ctx (codes "#acc") (args_view q).acc

-- the context around a block
abbrev pub outside : Option (Bor Scope) → ContextView → ContextView
outside None ctx = ctx
outside (Some o) ctx = context_in o.now ctx

pub context_in-rolled : (bindings : Vec Binding Global) (predicate_args : Option PredicateArgs) (outer : Option (Bor Scope)) (ctx : ContextView)
    → context_in (roll-Scope (record { bindings = bindings; predicate_args = predicate_args; outer = outer })) ctx ≡ with_bindings bindings.items (in_predicate predicate_args (outside outer ctx))
context_in-rolled bindings predicate_args None ctx =
    ap (λ (f : ContextView → ContextView). f ctx) (fold-roll-Scope (ContextView → ContextView) scope_step (record { bindings = bindings; predicate_args = predicate_args; outer = None }))
context_in-rolled bindings predicate_args (Some o) ctx =
    ap (λ (f : ContextView → ContextView). f ctx) (fold-roll-Scope (ContextView → ContextView) scope_step (record { bindings = bindings; predicate_args = predicate_args; outer = Some o }))

pub context_in-is : (s : Scope) (ctx : ContextView) → context_in s ctx ≡ with_bindings (out-Scope s).bindings.items (in_predicate (out-Scope s).predicate_args (outside (out-Scope s).outer ctx))
context_in-is s ctx = ap (λ d. context_in d ctx) (sym (roll-out-Scope s)) ∙ context_in-rolled (out-Scope s).bindings (out-Scope s).predicate_args (out-Scope s).outer ctx

-- one binding more
pub context_in-pushed : (s s' : Scope) (b : Binding) (ctx : ContextView)
    → (out-Scope s').bindings.items ≡ (out-Scope s).bindings.items ++ b ∷ [] → (out-Scope s').predicate_args ≡ (out-Scope s).predicate_args → (out-Scope s').outer ≡ (out-Scope s).outer
    → context_in s' ctx ≡ override (context_in s ctx) b.name.now b.value
context_in-pushed s s' b ctx pushed asked same =
    context_in-is s' ctx ∙ (λ i. with_bindings (pushed i) (in_predicate (asked i) (outside (same i) ctx)))
    ∙ with_bindings-last (out-Scope s).bindings.items b (in_predicate (out-Scope s).predicate_args (outside (out-Scope s).outer ctx))
    ∙ ap (λ c. override c b.name.now b.value) (sym (context_in-is s ctx))

-- the scopes around leave the map, if each of them does
module _ (ctx : ContextView) where
  abbrev LeavesMap : Scope → Type 0
  LeavesMap s = (context_in s ctx).map ≡ ctx.map

  rolled_leaves : (bindings : Vec Binding Global) (predicate_args : Option PredicateArgs) (outer : Option (Bor ((s : Scope) × LeavesMap s)))
      → LeavesMap (roll-Scope (map-Scope ((s : Scope) × LeavesMap s) Scope (λ e. e.0) (record { bindings = bindings; predicate_args = predicate_args; outer = outer })))
  rolled_leaves bindings predicate_args None =
      ap (λ (c : ContextView). c.map) (context_in-rolled bindings predicate_args None ctx) ∙ map_overridden bindings.items (in_predicate predicate_args ctx) ∙ map_asking predicate_args ctx
  rolled_leaves bindings predicate_args (Some o) =
      ap (λ (c : ContextView). c.map) (context_in-rolled bindings predicate_args (Some (record { ref_ptr = o.ref_ptr; now = o.now.0 })) ctx)
      ∙ map_overridden bindings.items (in_predicate predicate_args (context_in o.now.0 ctx)) ∙ map_asking predicate_args (context_in o.now.0 ctx) ∙ o.now.1

  pub map_inside : (s : Scope) → (context_in s ctx).map ≡ ctx.map
  map_inside = ind-Scope LeavesMap (λ x y is. subst (λ z. LeavesMap (roll-Scope z)) is (rolled_leaves y.bindings y.predicate_args y.outer))

-- the map of the environment
pub lookup_answer-env : (scope : Scope) (base : ContextView) (key : List ℕ) → bytes_eq key (codes "$env") ≡ true → lookup_answer (context_in scope base) key ≡ Ok (value.Map base.map)
lookup_answer-env scope base key same = rw (same, map_inside base scope) refl
