-- The values of what a run holds.
use Rattle.std.proofs.Common.{◌≡◌, ℕ, List, [], ◌∷◌, ◌++◌, take, Option, Some, None, refl, sym, ap, ◌∙◌}
use Rattle.std.proofs.lemmas.List.{map-append, take-map}
use Rattle.expr_code.specs.CallBinds.{bound_arg, bound_helds, bound_item, bound_values, arg_or_nil}
use Rattle.expr_code.specs.Held.{Held, Owner, lent, own, placed, settle, values}
use Rattle.expr_code.specs.Instructions.{Act, operate, operate_with, prefix, collect, gather, span, pick, pick_at, cut, invoke, calls, check_bool, check_integer}
use Rattle.expr_code.specs.declared.binds.Binds.{Binds}
use Rattle.expr_code.specs.declared.binds.Binds.TheVariants.{Item, Index, Acc}
use Rattle.expr_context.specs.Context.{ContextView}
use Rattle.expr_context.specs.Told.{PredicateArgsView}
use Rattle.expr_meaning.specs.Counts.{act_held, field_held, field_held_by}
use Rattle.expr_value.specs.declared.value.Value.{Value}

abbrev pub value_of : Held → Value
value_of h = h.value

pub values-cut : (slots : List Held) (n : ℕ) → values (take n slots) ≡ take n (values slots)
values-cut slots n = sym (take-map value_of n slots)

pub values-stored : (slots : List Held) (n : ℕ) (h : Held) → values (take n slots ++ settle h ∷ []) ≡ take n (values slots) ++ h.value ∷ []
values-stored slots n h = map-append value_of (take n slots) (settle h ∷ []) ∙ ap (λ l. l ++ h.value ∷ []) (values-cut slots n)

item-is : (o : Owner) (v : Value) → (bound_item o v).value ≡ v
item-is lent v = refl
item-is own v = refl
item-is placed v = refl

arg-is : (o : Option Value) → (bound_arg o).value ≡ arg_or_nil o
arg-is (Some v) = refl
arg-is None = refl

values-bound : (o : Owner) (binds : Binds) (q : PredicateArgsView) → values (bound_helds o binds q) ≡ bound_values binds q
values-bound o Item q = ap (λ v. v ∷ []) (item-is o q.item)
values-bound o Index q = ap (λ v. v ∷ (bound_arg q.index).value ∷ []) (item-is o q.item) ∙ ap (λ i. q.item ∷ i ∷ []) (arg-is q.index)
values-bound o Acc q =
    ap (λ v. v ∷ (bound_arg q.index).value ∷ (bound_arg q.acc).value ∷ []) (item-is o q.item) ∙ ap (λ i. q.item ∷ i ∷ (bound_arg q.acc).value ∷ []) (arg-is q.index)
    ∙ ap (λ w. q.item ∷ arg_or_nil q.index ∷ w ∷ []) (arg-is q.acc)

-- the slots of a block that a call asks
pub values-entered : (slots : List Held) (n : ℕ) (o : Owner) (binds : Binds) (q : PredicateArgsView) → values (take n slots ++ bound_helds o binds q) ≡ take n (values slots) ++ bound_values binds q
values-entered slots n o binds q =
    map-append value_of (take n slots) (bound_helds o binds q) ∙ ap (λ l. l ++ values (bound_helds o binds q)) (values-cut slots n) ∙ ap (λ l. take n (values slots) ++ l) (values-bound o binds q)

-- what is held of a value has that value
pub act_held-is : (a : Act) (hs : List Held) (v : Value) → (act_held a hs v).value ≡ v
act_held-is (pick optional) [] v = refl
act_held-is (pick optional) (h ∷ []) v = refl
act_held-is (pick optional) (h ∷ key ∷ []) v = refl
act_held-is (pick optional) (h ∷ key ∷ other ∷ hs) v = refl
act_held-is (pick_at key optional) [] v = refl
act_held-is (pick_at key optional) (h ∷ []) v = refl
act_held-is (pick_at key optional) (h ∷ other ∷ hs) v = refl
act_held-is (operate op) hs v = refl
act_held-is (operate_with op right) hs v = refl
act_held-is (prefix op) hs v = refl
act_held-is (collect n) hs v = refl
act_held-is (gather keys) hs v = refl
act_held-is span hs v = refl
act_held-is (cut start stop) hs v = refl
act_held-is (invoke key n) hs v = refl
act_held-is (calls key n) hs v = refl
act_held-is check_bool hs v = refl
act_held-is check_integer hs v = refl

named_is : (o : Option Value) (item : Held) (v : Value) → (field_held_by o item v).value ≡ v
named_is (Some named) item v = refl
named_is None item v = refl

pub field_held-is : (ctx : ContextView) (key : List ℕ) (item : Held) (v : Value) → (field_held ctx key item v).value ≡ v
field_held-is ctx key item v = named_is (ctx.value_of key) item v
