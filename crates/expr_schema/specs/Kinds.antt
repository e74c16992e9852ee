-- The kinds of values.
use Rattle.std.specs.Prelude.{◌≡◌, ◌⊎◌, ◌↔◌, ℕ, ℤ, Bool, true, false, List, Option, Some, None, MatchBool, bytes_eq}
pub use Rattle.std.specs.List.{AllByRecursion as Each}
use Rattle.expr_datetime.specs.declared.moment.DateTimeValue.{DateTimeValue}
use Rattle.expr_datetime.specs.declared.zone.TimezoneValue.{TimezoneValue}
use Rattle.expr_value.specs.Names.{find}
use Rattle.expr_value.specs.declared.key.Key.{Key}
use Rattle.expr_value.specs.declared.value.Value as value
use Rattle.expr_value.specs.declared.value.Value.{Value}

mutual
  -- A kind is a set of values.
  pub data Kind : Type 0 where
    -- every value
    any : Kind
    -- no value: the kind of the items of an empty array
    never : Kind
    nil : Kind
    bool : Kind
    integer : Kind
    string : Kind
    bytes : Kind
    duration : Kind
    month : Kind
    weekday : Kind
    datetime : Kind
    timezone : Kind
    -- an array whose items are of one kind
    array : (item : Kind) → Kind
    -- a map with names as keys
    map : (fields : Fields) → Kind
    -- a map with scalar keys, whose values are of one kind
    keyed : (item : Kind) → Kind
    -- a value of a kind, or nil
    nilable : (kind : Kind) → Kind

  -- What is known of each name. The first entry for a name counts.
  pub data Fields : Type 0 where
    -- no other name has a value
    no_others : Fields
    -- any other name has a value of this kind, or none
    others : (kind : Kind) → Fields
    -- this name has a value of this kind; it may have none if it isn't required
    field : (name : List ℕ) (kind : Kind) (required : Bool) (rest : Fields) → Fields

-- a value has a property; if it isn't required, there may be none
abbrev pub Found : Bool → (Value → Type 0) → Option Value → Type 0
Found required P (Some v) = P v
Found true P None = ⊥
Found false P None = Unit {0}

abbrev mutual
  -- the value is of the kind
  pub HasKind : Kind → Value → Type 0
  HasKind any v = Unit {0}
  HasKind never v = ⊥
  HasKind nil v = v ≡ value.Nil
  HasKind bool v = (b : Bool) × (v ≡ value.Bool b)
  HasKind integer v = (n : ℤ) × (v ≡ value.Integer n)
  HasKind string v = (s : List ℕ) × (v ≡ value.String s)
  HasKind bytes v = (bs : List ℕ) × (v ≡ value.Bytes bs)
  HasKind duration v = (n : ℤ) × (v ≡ value.Duration n)
  HasKind month v = (n : ℕ) × (v ≡ value.Month n)
  HasKind weekday v = (n : ℕ) × (v ≡ value.Weekday n)
  HasKind datetime v = (t : DateTimeValue) × (v ≡ value.DateTime t)
  HasKind timezone v = (z : TimezoneValue) × (v ≡ value.Timezone z)
  HasKind (array item) v = (xs : List Value) × (v ≡ value.Array xs) × Each (λ x. HasKind item x) xs
  HasKind (map fields) v = (m : List (List ℕ × Value)) × (v ≡ value.Map m) × ((name : List ℕ) → StandsAt fields name (find name m))
  HasKind (keyed item) v = (m : List (Key × Value)) × (v ≡ value.KeyedMap m) × Each (λ e. HasKind item e.1) m
  HasKind (nilable kind) v = (v ≡ value.Nil) ⊎ HasKind kind v

  -- a name may have this value, or none
  pub StandsAt : Fields → List ℕ → Option Value → Type 0
  StandsAt no_others name found = found ≡ None
  StandsAt (others kind) name found = Found false (λ v. HasKind kind v) found
  StandsAt (field key kind required rest) name found = MatchBool (bytes_eq key name) (Found required (λ v. HasKind kind v) found) (StandsAt rest name found)

-- each value of the first kind is of the second
abbrev pub Fits : Kind → Kind → Type 0
Fits a b = (v : Value) → HasKind a v → HasKind b v

-- a name that is required has a value
abbrev pub Present : Bool → Option Value → Type 0
Present true None = ⊥
Present required found = Unit {0}

-- a kind says that it takes nil beside others
abbrev pub IsNilable : Kind → Type 0
IsNilable (nilable k) = Unit {0}
IsNilable k = ⊥

-- what one list of fields lets stand at a name, another does
abbrev pub Lets : Fields → Fields → List ℕ → Type 0
Lets a b name = (found : Option Value) → StandsAt a name found → StandsAt b name found

-- at each name, two lists of fields let the same stand
abbrev pub SameFields : Fields → Fields → Type 0
SameFields a b = (name : List ℕ) (found : Option Value) → StandsAt a name found ↔ StandsAt b name found

-- which errors may come: none, that of a pattern, or any
pub data Effect : Type 0 where
  total : Effect
  matching : Effect
  failing : Effect
