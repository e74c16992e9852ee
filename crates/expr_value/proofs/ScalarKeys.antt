-- A key as a value, and back; equality by the outermost layers of two values.
use Rattle.std.proofs.Common.{◌≡◌, Bool, Some, refl}
use Rattle.expr_value.specs.Values.{equals, equals_layer, key_of, of_key}
use Rattle.expr_value.specs.declared.key.Key.{Key}
use Rattle.expr_value.specs.declared.value.Value.{Value, map-Value, out-Value, fold_out-Value}

pub key_back : (k : Key) → key_of (of_key k) ≡ Some k
unfolding Rattle.expr_value.specs.declared.value.Value.TheViews.out-Value denote.Hole.Carrier.out
key_back Key.Nil = refl
key_back (Key.Bool b) = refl
key_back (Key.Integer n) = refl
key_back (Key.String s) = refl
key_back (Key.Duration n) = refl
key_back (Key.Month n) = refl
key_back (Key.Weekday n) = refl
key_back (Key.DateTime t) = refl
key_back (Key.Timezone z) = refl

pub equals-out : (v w : Value) → equals v w ≡ equals_layer (map-Value Value (Value → Bool) equals (out-Value v)) (out-Value w)
equals-out v w = λ i. fold_out-Value (Value → Bool) (λ layer u. equals_layer layer (out-Value u)) v i w
