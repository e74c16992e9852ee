-- A test of a value's kind, and what it says.
use Rattle.std.proofs.Common.{◌≡◌, ◌↔◌, ℕ, Bool, true, false, IsTrue, List, refl, sym, ◌∙◌, subst}
use Rattle.expr_value.specs.declared.value.Value as value
use Rattle.expr_value.specs.declared.value.Value.{Value}
use Rattle.expr_value.specs.declared.key.Key.{Key}
use Rattle.expr_value.specs.Names.{find}
use Rattle.expr_schema.specs.Kinds.{Kind, Fields, HasKind, StandsAt, Each, array, map, keyed}
use Rattle.std.specs.Map.{values_of}
use Rattle.expr_schema.proofs.Lists.{Each-values, values-Each}
use Rattle.expr_schema.proofs.Layers.{same_items, same_pairs, same_keyed}

module _ (k j : Kind) (v : Value) (same : k ≡ j) where
  pub yes : HasKind j v → IsTrue true ↔ HasKind k v
  yes h = (λ t. subst (λ i. HasKind i v) (sym same) h, λ x. refl)

  pub no : (HasKind j v → ⊥) → IsTrue false ↔ HasKind k v
  no n = (λ t. absurd (cc t), λ h. absurd (n (subst (λ i. HasKind i v) same h)))

  pub also : (b : Bool) → (IsTrue b ↔ HasKind j v) → IsTrue b ↔ HasKind k v
  also b w = (λ t. subst (λ i. HasKind i v) (sym same) (w.0 t), λ h. w.1 (subst (λ i. HasKind i v) same h))

pub array_kept : (b : Bool) (item item' : Kind) (xs xs' : List Value) (v : Value) → v ≡ value.Array xs → xs' ≡ xs → item' ≡ item
    → (IsTrue b ↔ Each (λ x. HasKind item' x) xs') → IsTrue b ↔ HasKind (array item) v
array_kept b item item' xs xs' v is e f w = (
  λ t. (xs, is, subst (λ ys. Each (λ x. HasKind item x) ys) e (subst (λ i. Each (λ x. HasKind i x) xs') f (w.0 t))),
  λ (ys, at, h). w.1 (subst (λ i. Each (λ x. HasKind i x) xs') (sym f) (subst (λ zs. Each (λ x. HasKind item x) zs) (same_items ys xs (sym at ∙ is) ∙ sym e) h)),
)

pub map_kept : (b : Bool) (fields : Fields) (m : List (List ℕ × Value)) (v : Value) → v ≡ value.Map m
    → (IsTrue b ↔ ((name : List ℕ) → StandsAt fields name (find name m))) → IsTrue b ↔ HasKind (map fields) v
map_kept b fields m v is w = (
  λ t. (m, is, w.0 t),
  λ (n, at, h). w.1 (subst (λ l. (name : List ℕ) → StandsAt fields name (find name l)) (same_pairs n m (sym at ∙ is)) h),
)

pub keyed_kept : (b : Bool) (item : Kind) (m : List (Key × Value)) (v : Value) → v ≡ value.KeyedMap m
    → (IsTrue b ↔ Each (λ e. HasKind item e.1) m) → IsTrue b ↔ HasKind (keyed item) v
keyed_kept b item m v is w = (
  λ t. (m, is, w.0 t),
  λ (n, at, h). w.1 (subst (λ l. Each (λ e. HasKind item e.1) l) (same_keyed n m (sym at ∙ is)) h),
)

pub keyed_values : (b : Bool) (item item' : Kind) (m : List (Key × Value)) (vs : List Value) → vs ≡ values_of m → item' ≡ item
    → (IsTrue b ↔ Each (λ x. HasKind item' x) vs) → IsTrue b ↔ Each (λ e. HasKind item e.1) m
keyed_values b item item' m vs e f w = (
  λ t. Each-values (λ x. HasKind item x) m (subst (λ ys. Each (λ x. HasKind item x) ys) e (subst (λ i. Each (λ x. HasKind i x) vs) f (w.0 t))),
  λ h. w.1 (subst (λ i. Each (λ x. HasKind i x) vs) (sym f) (subst (λ ys. Each (λ x. HasKind item x) ys) (sym e) (values-Each (λ x. HasKind item x) m h))),
)
