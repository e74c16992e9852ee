-- The one layer that a value of a kind has.
use Rattle.std.proofs.Common.{◌≡◌, ℕ, ℤ, Bool, List, sym, ap, ◌∙◌, subst, rules}
use Rattle.expr_datetime.specs.declared.moment.DateTimeValue.{DateTimeValue}
use Rattle.expr_datetime.specs.declared.zone.TimezoneValue.{TimezoneValue}
use Rattle.expr_value.specs.declared.key.Key.{Key}
use Rattle.expr_value.specs.declared.value.Value as value
use Rattle.expr_value.specs.declared.value.Value.{Value, out-Value, the_lemmas}
use Rattle.expr_value.specs.declared.value.Value.TheOpen.{Value-F}
use Rattle.expr_schema.specs.Kinds.{Kind, nil, bool, integer, string, bytes, duration, month, weekday, datetime, timezone, array, keyed, HasKind}

abbrev pub Layer : Type 0
Layer = Value-F Value

-- a layer in place of that of a value
pub at-layer : (P : Layer → Type 0) (v : Value) (l : Layer) → out-Value v ≡ l → P l → P (out-Value v)
at-layer P v l p h = subst P (sym p) h

pub at-layers : (P : Layer → Layer → Type 0) (v w : Value) (l m : Layer) → out-Value v ≡ l → out-Value w ≡ m → P l m → P (out-Value v) (out-Value w)
at-layers P v w l m p q h = at-layer (λ x. P x (out-Value w)) v l p (at-layer (λ y. P l y) w m q h)

pub out-nil : out-Value value.Nil ≡ Value-F.Nil
out-nil = search (rules, the_lemmas)

pub out-bool : (b : Bool) → out-Value (value.Bool b) ≡ Value-F.Bool b
out-bool b = search (rules, the_lemmas)

out-integer : (n : ℤ) → out-Value (value.Integer n) ≡ Value-F.Integer n
out-integer n = search (rules, the_lemmas)

pub out-string : (s : List ℕ) → out-Value (value.String s) ≡ Value-F.String s
out-string s = search (rules, the_lemmas)

out-bytes : (s : List ℕ) → out-Value (value.Bytes s) ≡ Value-F.Bytes s
out-bytes s = search (rules, the_lemmas)

out-duration : (n : ℤ) → out-Value (value.Duration n) ≡ Value-F.Duration n
out-duration n = search (rules, the_lemmas)

out-datetime : (t : DateTimeValue) → out-Value (value.DateTime t) ≡ Value-F.DateTime t
out-datetime t = search (rules, the_lemmas)

out-month : (n : ℕ) → out-Value (value.Month n) ≡ Value-F.Month n
out-month n = search (rules, the_lemmas)

out-weekday : (n : ℕ) → out-Value (value.Weekday n) ≡ Value-F.Weekday n
out-weekday n = search (rules, the_lemmas)

out-timezone : (z : TimezoneValue) → out-Value (value.Timezone z) ≡ Value-F.Timezone z
out-timezone z = search (rules, the_lemmas)

out-array : (xs : List Value) → out-Value (value.Array xs) ≡ Value-F.Array xs
out-array xs = search (rules, the_lemmas)

out-map : (m : List (List ℕ × Value)) → out-Value (value.Map m) ≡ Value-F.Map m
out-map m = search (rules, the_lemmas)

out-keyed : (m : List (Key × Value)) → out-Value (value.KeyedMap m) ≡ Value-F.KeyedMap m
out-keyed m = search (rules, the_lemmas)

pub nil-layer : (v : Value) → HasKind nil v → out-Value v ≡ Value-F.Nil
nil-layer v p = ap out-Value p ∙ out-nil

pub bool-layer : (v : Value) (h : HasKind bool v) → out-Value v ≡ Value-F.Bool h.0
bool-layer v h = ap out-Value h.1 ∙ out-bool h.0

pub integer-layer : (v : Value) (h : HasKind integer v) → out-Value v ≡ Value-F.Integer h.0
integer-layer v h = ap out-Value h.1 ∙ out-integer h.0

pub string-layer : (v : Value) (h : HasKind string v) → out-Value v ≡ Value-F.String h.0
string-layer v h = ap out-Value h.1 ∙ out-string h.0

pub bytes-layer : (v : Value) (h : HasKind bytes v) → out-Value v ≡ Value-F.Bytes h.0
bytes-layer v h = ap out-Value h.1 ∙ out-bytes h.0

pub duration-layer : (v : Value) (h : HasKind duration v) → out-Value v ≡ Value-F.Duration h.0
duration-layer v h = ap out-Value h.1 ∙ out-duration h.0

pub datetime-layer : (v : Value) (h : HasKind datetime v) → out-Value v ≡ Value-F.DateTime h.0
datetime-layer v h = ap out-Value h.1 ∙ out-datetime h.0

pub month-layer : (v : Value) (h : HasKind month v) → out-Value v ≡ Value-F.Month h.0
month-layer v h = ap out-Value h.1 ∙ out-month h.0

pub weekday-layer : (v : Value) (h : HasKind weekday v) → out-Value v ≡ Value-F.Weekday h.0
weekday-layer v h = ap out-Value h.1 ∙ out-weekday h.0

pub timezone-layer : (v : Value) (h : HasKind timezone v) → out-Value v ≡ Value-F.Timezone h.0
timezone-layer v h = ap out-Value h.1 ∙ out-timezone h.0

module _ (item : Kind) (v : Value) where
  pub array-layer : (h : HasKind (array item) v) → out-Value v ≡ Value-F.Array h.0
  array-layer h = ap out-Value h.1 ∙ out-array h.0

  pub keyed-layer : (h : HasKind (keyed item) v) → out-Value v ≡ Value-F.KeyedMap h.0
  keyed-layer h = ap out-Value h.1 ∙ out-keyed h.0

-- a map as the list of its pairs
pub map-layer : (m : List (List ℕ × Value)) (v : Value) → v ≡ value.Map m → out-Value v ≡ Value-F.Map m
map-layer m v p = ap out-Value p ∙ out-map m
