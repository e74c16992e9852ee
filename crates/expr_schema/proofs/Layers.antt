-- The one layer of each form of value.
use Rattle.std.proofs.Common.{◌≡◌, ℕ, ℤ, Bool, List, sym, ap, ◌∙◌, rules}
use Rattle.expr_datetime.specs.declared.moment.DateTimeValue.{DateTimeValue}
use Rattle.expr_datetime.specs.declared.zone.TimezoneValue.{TimezoneValue}
use Rattle.expr_value.specs.declared.key.Key.{Key}
use Rattle.expr_value.specs.declared.value.Value as value
use Rattle.expr_value.specs.declared.value.Value.{Value, out-Value, the_lemmas}
use Rattle.expr_value.specs.declared.value.Value.TheOpen.{Value-F}

pub out-nil : out-Value value.Nil ≡ Value-F.Nil
out-nil = search (rules, the_lemmas)

pub out-bool : (x : Bool) → out-Value (value.Bool x) ≡ Value-F.Bool x
out-bool x = search (rules, the_lemmas)

pub nil-bool : (x : Bool) → value.Nil ≡ value.Bool x → ⊥
nil-bool x e =
    let layers : Value-F.Nil ≡ Value-F.Bool x = sym out-nil ∙ ap out-Value e ∙ out-bool x in
    cc layers

pub out-integer : (x : ℤ) → out-Value (value.Integer x) ≡ Value-F.Integer x
out-integer x = search (rules, the_lemmas)

pub nil-integer : (x : ℤ) → value.Nil ≡ value.Integer x → ⊥
nil-integer x e =
    let layers : Value-F.Nil ≡ Value-F.Integer x = sym out-nil ∙ ap out-Value e ∙ out-integer x in
    cc layers

pub out-string : (x : List ℕ) → out-Value (value.String x) ≡ Value-F.String x
out-string x = search (rules, the_lemmas)

pub nil-string : (x : List ℕ) → value.Nil ≡ value.String x → ⊥
nil-string x e =
    let layers : Value-F.Nil ≡ Value-F.String x = sym out-nil ∙ ap out-Value e ∙ out-string x in
    cc layers

pub out-bytes : (x : List ℕ) → out-Value (value.Bytes x) ≡ Value-F.Bytes x
out-bytes x = search (rules, the_lemmas)

pub nil-bytes : (x : List ℕ) → value.Nil ≡ value.Bytes x → ⊥
nil-bytes x e =
    let layers : Value-F.Nil ≡ Value-F.Bytes x = sym out-nil ∙ ap out-Value e ∙ out-bytes x in
    cc layers

pub out-duration : (x : ℤ) → out-Value (value.Duration x) ≡ Value-F.Duration x
out-duration x = search (rules, the_lemmas)

pub nil-duration : (x : ℤ) → value.Nil ≡ value.Duration x → ⊥
nil-duration x e =
    let layers : Value-F.Nil ≡ Value-F.Duration x = sym out-nil ∙ ap out-Value e ∙ out-duration x in
    cc layers

pub out-month : (x : ℕ) → out-Value (value.Month x) ≡ Value-F.Month x
out-month x = search (rules, the_lemmas)

pub nil-month : (x : ℕ) → value.Nil ≡ value.Month x → ⊥
nil-month x e =
    let layers : Value-F.Nil ≡ Value-F.Month x = sym out-nil ∙ ap out-Value e ∙ out-month x in
    cc layers

pub out-weekday : (x : ℕ) → out-Value (value.Weekday x) ≡ Value-F.Weekday x
out-weekday x = search (rules, the_lemmas)

pub nil-weekday : (x : ℕ) → value.Nil ≡ value.Weekday x → ⊥
nil-weekday x e =
    let layers : Value-F.Nil ≡ Value-F.Weekday x = sym out-nil ∙ ap out-Value e ∙ out-weekday x in
    cc layers

pub out-datetime : (x : DateTimeValue) → out-Value (value.DateTime x) ≡ Value-F.DateTime x
out-datetime x = search (rules, the_lemmas)

pub nil-datetime : (x : DateTimeValue) → value.Nil ≡ value.DateTime x → ⊥
nil-datetime x e =
    let layers : Value-F.Nil ≡ Value-F.DateTime x = sym out-nil ∙ ap out-Value e ∙ out-datetime x in
    cc layers

pub out-timezone : (x : TimezoneValue) → out-Value (value.Timezone x) ≡ Value-F.Timezone x
out-timezone x = search (rules, the_lemmas)

pub nil-timezone : (x : TimezoneValue) → value.Nil ≡ value.Timezone x → ⊥
nil-timezone x e =
    let layers : Value-F.Nil ≡ Value-F.Timezone x = sym out-nil ∙ ap out-Value e ∙ out-timezone x in
    cc layers

pub out-array : (x : List Value) → out-Value (value.Array x) ≡ Value-F.Array x
out-array x = search (rules, the_lemmas)

pub nil-array : (x : List Value) → value.Nil ≡ value.Array x → ⊥
nil-array x e =
    let layers : Value-F.Nil ≡ Value-F.Array x = sym out-nil ∙ ap out-Value e ∙ out-array x in
    cc layers

pub out-map : (x : List (List ℕ × Value)) → out-Value (value.Map x) ≡ Value-F.Map x
out-map x = search (rules, the_lemmas)

pub nil-map : (x : List (List ℕ × Value)) → value.Nil ≡ value.Map x → ⊥
nil-map x e =
    let layers : Value-F.Nil ≡ Value-F.Map x = sym out-nil ∙ ap out-Value e ∙ out-map x in
    cc layers

pub out-keyed : (x : List (Key × Value)) → out-Value (value.KeyedMap x) ≡ Value-F.KeyedMap x
out-keyed x = search (rules, the_lemmas)

pub nil-keyed : (x : List (Key × Value)) → value.Nil ≡ value.KeyedMap x → ⊥
nil-keyed x e =
    let layers : Value-F.Nil ≡ Value-F.KeyedMap x = sym out-nil ∙ ap out-Value e ∙ out-keyed x in
    cc layers

-- arrays and maps with the same parts
pub same_items : (xs ys : List Value) → value.Array xs ≡ value.Array ys → xs ≡ ys
same_items xs ys e =
    let layers : Value-F.Array xs ≡ Value-F.Array ys = sym (out-array xs) ∙ ap out-Value e ∙ out-array ys in
    cc layers

pub same_pairs : (xs ys : List (List ℕ × Value)) → value.Map xs ≡ value.Map ys → xs ≡ ys
same_pairs xs ys e =
    let layers : Value-F.Map xs ≡ Value-F.Map ys = sym (out-map xs) ∙ ap out-Value e ∙ out-map ys in
    cc layers

pub same_keyed : (xs ys : List (Key × Value)) → value.KeyedMap xs ≡ value.KeyedMap ys → xs ≡ ys
same_keyed xs ys e =
    let layers : Value-F.KeyedMap xs ≡ Value-F.KeyedMap ys = sym (out-keyed xs) ∙ ap out-Value e ∙ out-keyed ys in
    cc layers
