-- The part of a value at a key.
use Rattle.std.proofs.Common.{◌≡◌, ℕ, ℤ, pos, negsuc, Bool, false, List, reverse, Option, Some, None, option_map, unwrap_or, IfSome, refl, inl, inr}
use Rattle.std.specs.Map.{lookup}
use Rattle.std.specs.Option.{option_and_then}
use Rattle.expr_arguments.specs.Parts.{index_answer, index_answer_layers, item_from}
use Rattle.expr_value.specs.Keys.{key_eq}
use Rattle.expr_value.specs.Names.{find}
use Rattle.expr_value.specs.Values.{at_key, key_of}
use Rattle.expr_value.specs.declared.key.Key.{Key}
use Rattle.expr_value.specs.declared.value.Value as value
use Rattle.expr_value.specs.declared.value.Value.{Value, out-Value}
use Rattle.expr_value.specs.declared.value.Value.TheOpen.{Value-F}
use Rattle.expr_schema.specs.Kinds.{Kind, integer, string, bytes, array, map, keyed, nilable, others, Fields, HasKind, Found, Each, Effect}
use Rattle.expr_kinds.specs.Effects.{ResultIs}
use Rattle.expr_kinds.specs.Scopes.{at_name}
use Rattle.expr_kinds.proofs.Held.{Of}
use Rattle.expr_kinds.proofs.Layers.{Layer, at-layer, at-layers, integer-layer, string-layer, bytes-layer, array-layer, keyed-layer, map-layer}
use Rattle.expr_kinds.proofs.Lists.{Each-all, Each-reverse, Each-get, IfSome-map, nil-or, lookup-each}
use Rattle.expr_kinds.proofs.Standing.{at_name-stands}

pub item-from : {X : Type 0} (P : X → Type 0) (xs : List X) → Each P xs → (n : ℤ) → IfSome (item_from xs n) P
item-from P xs p (pos n) = Each-get P xs n p
item-from P xs p (negsuc n) = Each-get P (reverse xs) n (Each-reverse P xs p)

-- what may be found
pub found-or_nil : (k : Kind) (o : Option Value) → Found false (λ v. HasKind k v) o → HasKind (nilable k) (unwrap_or o value.Nil)
found-or_nil k (Some v) p = inr p
found-or_nil k None p = inl refl

module _ (e : Effect) (optional : Bool) (v w : Value) where
  module _ (item : Kind) where
    pub item-of_array : HasKind (array item) v → HasKind integer w → ResultIs e (Of (nilable item)) (index_answer v w optional)
    item-of_array h j =
        at-layers (λ l x. ResultIs e (Of (nilable item)) (index_answer_layers l w x optional)) v w _ _ (array-layer item v h) (integer-layer w j) (nil-or item (item_from h.0 j.0) (item-from (Of item) h.0 h.2 j.0))

    pub entry-of : HasKind (keyed item) v → ResultIs e (Of (nilable item)) (index_answer v w optional)
    entry-of h = at-layer (λ l. ResultIs e (Of (nilable item)) (index_answer_layers l w (out-Value w) optional)) v _ (keyed-layer item v h) (by_layer (out-Value w))
      where
        sought : (o : Option Key) → IfSome (option_and_then (λ q. lookup (key_eq q) h.0) o) (Of item)
        sought None = tt
        sought (Some q) = lookup-each item (key_eq q) h.0 h.2

        by_layer : (x : Layer) → ResultIs e (Of (nilable item)) (index_answer_layers (Value-F.KeyedMap h.0) w x optional)
        by_layer (Value-F.Integer n) = nil-or item (at_key w h.0) (sought (key_of w))
        by_layer x = nil-or item (at_key w h.0) (sought (key_of w))

    pub value-of_map : HasKind (map (others item)) v → HasKind string w → ResultIs e (Of (nilable item)) (index_answer v w optional)
    value-of_map (m, is, at) j =
        at-layers (λ l x. ResultIs e (Of (nilable item)) (index_answer_layers l w x optional)) v w _ _ (map-layer m v is) (string-layer w j) (found-or_nil item (find j.0 m) (at j.0))

  pub byte-of : HasKind bytes v → HasKind integer w → ResultIs e (Of (nilable integer)) (index_answer v w optional)
  byte-of h j =
      at-layers (λ l x. ResultIs e (Of (nilable integer)) (index_answer_layers l w x optional)) v w _ _ (bytes-layer v h) (integer-layer w j)
      (nil-or integer (option_map (λ b. value.Integer (pos b)) (item_from h.0 j.0))
      (IfSome-map (Of integer) (λ b. value.Integer (pos b)) (item_from h.0 j.0) (item-from (λ b. HasKind integer (value.Integer (pos b))) h.0 (Each-all (λ b. HasKind integer (value.Integer (pos b))) (λ b. (pos b, refl)) h.0) j.0)))

-- the field at a literal name
pub named-field : (e : Effect) (fs : Fields) (n : List ℕ) (optional : Bool) (v w : Value) → HasKind (map fs) v → w ≡ value.String n → ResultIs e (Of (at_name fs n)) (index_answer v w optional)
named-field e fs n optional v w (m, p, at) q =
    at-layers (λ l x. ResultIs e (Of (at_name fs n)) (index_answer_layers l w x optional)) v w _ _ (map-layer m v p) (string-layer w (n, q)) (at_name-stands fs n (find n m) (at n))
