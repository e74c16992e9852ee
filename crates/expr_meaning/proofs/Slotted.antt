-- Names in slots.
use Rattle.std.proofs.Common.{◌≡◌, ℕ, suc, List, [], ◌∷◌, ◌++◌, length, Option, Some, None, Bool, true, false, refl, sym, ap, ◌∙◌, arith, bytes_eq, cond}
use Rattle.std.proofs.Math.Path.{fun_ext}
use Rattle.std.proofs.lemmas.Slice.Eq.{bytes_eq-Decides}
use Rattle.std.specs.Prelude.{slice_get}
use Rattle.expr_meaning.specs.World.{World, with_context}
use Rattle.expr_context.specs.Context.{ContextView, override}
use Rattle.expr_value.specs.declared.value.Value.{Value}
use Rattle.expr_code.specs.Codes.{SlotNames}
use Rattle.expr_code.specs.Slots.{slot_of, slot_behind}

-- the context under the bindings of a scope, of which the last is the innermost
abbrev pub overridden : SlotNames → List Value → ContextView → ContextView
overridden [] slots ctx = ctx
overridden (n ∷ scope) [] ctx = ctx
overridden (n ∷ scope) (v ∷ slots) ctx = overridden scope slots (override ctx n v)

-- the world under these bindings
abbrev pub with_slots : World → SlotNames → List Value → World
with_slots world scope slots = with_context world (overridden scope slots world.context)

pub overridden-append : (scope names : SlotNames) (slots values : List Value) (ctx : ContextView)
    → length scope ≡ length slots → overridden (scope ++ names) (slots ++ values) ctx ≡ overridden names values (overridden scope slots ctx)
overridden-append [] names [] values ctx e = refl
overridden-append [] names (v ∷ slots) values ctx e = absurd (omega (arith, e))
overridden-append (n ∷ scope) names [] values ctx e = absurd (omega (arith, e))
overridden-append (n ∷ scope) names (v ∷ slots) values ctx e = overridden-append scope names slots values (override ctx n v) (omega (arith, e))

pub overridden-map : (scope : SlotNames) (slots : List Value) (ctx : ContextView) → (overridden scope slots ctx).map ≡ ctx.map
overridden-map [] slots ctx = refl
overridden-map (n ∷ scope) [] ctx = refl
overridden-map (n ∷ scope) (v ∷ slots) ctx = overridden-map scope slots (override ctx n v)

-- what a name is bound to under a scope
pub data Means (slots extra : List Value) (ctx : ContextView) (key : List ℕ) (value : Option Value) : Option ℕ → Type 0 where
  in_slot : (i : ℕ) (v : Value) → slice_get (slots ++ extra) i ≡ Some v → value ≡ Some v → Means slots extra ctx key value (Some i)
  in_context : value ≡ ctx.value_of key → Means slots extra ctx key value None

pub name_means : (scope : SlotNames) (slots extra : List Value) (ctx : ContextView) (key : List ℕ) → length scope ≡ length slots
    → Means slots extra ctx key ((overridden scope slots ctx).value_of key) (slot_of scope key)
name_means [] [] extra ctx key e = in_context refl
name_means [] (x ∷ slots) extra ctx key e = absurd (omega (arith, e))
name_means (m ∷ scope) [] extra ctx key e = absurd (omega (arith, e))
name_means (m ∷ scope) (x ∷ slots) extra ctx key e = go (slot_of scope key) (bytes_eq m key) refl (name_means scope slots extra (override ctx m x) key (omega (arith, e)))
  where
    go : (o : Option ℕ) (b : Bool) → bytes_eq m key ≡ b → Means slots extra (override ctx m x) key ((overridden scope slots (override ctx m x)).value_of key) o
        → Means (x ∷ slots) extra ctx key ((overridden scope slots (override ctx m x)).value_of key) (slot_behind o b)
    go (Some j) b h (in_slot i v at is) = in_slot (suc i) v at is
    go None true h (in_context is) = in_slot 0 x refl (is ∙ ap (λ c. cond c (Some x) (ctx.value_of key)) h)
    go None false h (in_context is) = in_context (is ∙ ap (λ c. cond c (Some x) (ctx.value_of key)) h)

-- bindings of two names may be exchanged
pub override-swapped : (k l : List ℕ) → bytes_eq l k ≡ false → (v w : Value) (ctx : ContextView) → override (override ctx k v) l w ≡ override (override ctx l w) k v
override-swapped k l apart v w ctx = ap (λ f. record ctx { value_of = f }) (fun_ext (λ n. at n (bytes_eq l n) (bytes_eq k n) refl refl (ctx.value_of n)))
  where
    at : (n : List ℕ) (b c : Bool) → bytes_eq l n ≡ b → bytes_eq k n ≡ c → (o : Option Value)
        → cond (bytes_eq l n) (Some w) (cond (bytes_eq k n) (Some v) o) ≡ cond (bytes_eq k n) (Some v) (cond (bytes_eq l n) (Some w) o)
    at n true true h i o =
        let same : l ≡ k = (bytes_eq-Decides l n).0 h ∙ sym ((bytes_eq-Decides k n).0 i) in
        let yes : bytes_eq l k ≡ true = (bytes_eq-Decides l k).1 same in
        let no : true ≡ false = sym yes ∙ apart in
        cc
    at n true false h i o = rw (h, i) refl
    at n false true h i o = rw (h, i) refl
    at n false false h i o = rw (h, i) refl
