-- Why an operator or a call may fail though its operands or arguments are of the right kinds, and which literals exclude it.
use Rattle.std.specs.Prelude.{◌≡◌, ℕ, ℤ, pos, negsuc, Bool, true, false, not, ◌||◌, List, [], ◌∷◌, Option, Some, None, slice_get, option_and_then, option_map, unwrap_or, bytes_eq, codes, if◌then◌else◌}
use Rattle.std.specs.Ordering.{int_eq}
use Rattle.expr_value.specs.Values.{integer_of, string_of}
use Rattle.expr_value.specs.declared.value.Value.{Value}
use Rattle.expr_schema.specs.Kinds.{Effect, total, failing}

-- the cause of an error
pub data Cause : Type 0 where
  -- there is none
  nothing : Cause
  -- what a value holds, which its kind doesn't say
  content : Cause
  -- the integer at this place is zero
  zero_at : (place : ℕ) → Cause
  -- the integer at this place is below zero
  negative_at : (place : ℕ) → Cause
  -- the string at this place is neither "asc" nor "desc"
  direction_at : (place : ℕ) → Cause

-- the operands or arguments that are literals, each at its place
abbrev pub Literals : Type 0
Literals = List (Option Value)

-- as many values as places, and at the place of each literal its value
abbrev pub AreKnown : Literals → List Value → Type 0
AreKnown [] [] = Unit {0}
AreKnown [] (v ∷ vs) = ⊥
AreKnown (o ∷ os) [] = ⊥
AreKnown (None ∷ os) (v ∷ vs) = AreKnown os vs
AreKnown (Some w ∷ os) (v ∷ vs) = (v ≡ w) × AreKnown os vs

-- a literal at this place passes the test
abbrev pub literal_passes : (Value → Bool) → ℕ → Literals → Bool
literal_passes test place known = unwrap_or (option_map test (option_and_then (λ o. o) (slice_get known place))) false

-- what a literal at the place must be, so that it excludes the cause
abbrev pub is_other_than_zero : Value → Bool
is_other_than_zero v = unwrap_or (option_map (λ n. not (int_eq n (pos 0))) (integer_of v)) false

abbrev pub is_natural : ℤ → Bool
is_natural (pos n) = true
is_natural (negsuc n) = false

abbrev pub is_not_negative : Value → Bool
is_not_negative v = unwrap_or (option_map is_natural (integer_of v)) false

abbrev pub is_direction : Value → Bool
is_direction v = unwrap_or (option_map (λ s. bytes_eq s (codes "desc") || bytes_eq s (codes "asc")) (string_of v)) false

-- the literals exclude the cause
abbrev pub is_excluded : Cause → Literals → Bool
is_excluded nothing known = true
is_excluded content known = false
is_excluded (zero_at place) known = literal_passes is_other_than_zero place known
is_excluded (negative_at place) known = literal_passes is_not_negative place known
is_excluded (direction_at place) known = literal_passes is_direction place known

-- no error, if the cause is excluded
abbrev pub effect_under : Cause → Literals → Effect
effect_under cause known = if is_excluded cause known then total else failing
