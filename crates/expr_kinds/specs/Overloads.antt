-- The kinds that built-ins on values take and return, as a table.
use Rattle.std.specs.Prelude.{Bool, true, false, List, [], ◌∷◌, if◌then◌else◌}
use Rattle.expr_functions.specs.declared.functions.ValueCall.{ValueCall}
use Rattle.expr_functions.specs.declared.functions.ValueCall.TheVariants.{Sort, Collection, Text, Conversion, Number, Bit, Encoding, Time}
use Rattle.expr_functions.specs.declared.functions.BitCall.{BitCall}
use Rattle.expr_functions.specs.declared.functions.BitCall.TheVariants as bit
use Rattle.expr_functions.specs.declared.functions.CollectionCall.{CollectionCall}
use Rattle.expr_functions.specs.declared.functions.CollectionCall.TheVariants as collection
use Rattle.expr_functions.specs.declared.functions.ConversionCall.{ConversionCall}
use Rattle.expr_functions.specs.declared.functions.ConversionCall.TheVariants as conversion
use Rattle.expr_functions.specs.declared.functions.EncodingCall.{EncodingCall}
use Rattle.expr_functions.specs.declared.functions.EncodingCall.TheVariants as encoding
use Rattle.expr_functions.specs.declared.functions.NumberCall.{NumberCall}
use Rattle.expr_functions.specs.declared.functions.NumberCall.TheVariants as number
use Rattle.expr_functions.specs.declared.functions.TextCall.{TextCall}
use Rattle.expr_functions.specs.declared.functions.TextCall.TheVariants as text
use Rattle.expr_functions.specs.declared.functions.TimeCall.{TimeCall}
use Rattle.expr_functions.specs.declared.functions.TimeCall.TheVariants as time
use Rattle.expr_value.specs.declared.value.Value.{Value}
use Rattle.expr_kinds.specs.Causes.{Cause, nothing, content, negative_at, direction_at}
use Rattle.expr_schema.specs.Kinds.{Kind, any, never, bool, integer, string, bytes, duration, datetime, timezone, array, map, keyed, nilable, others, HasKind, Each}

-- One way to call a built-in: with arguments of these kinds, and after them any number of a further kind, which is `never`
-- if no more may follow. The call returns a value of a kind, or an error by a cause.
pub record Overload : Type 0 where
  pub takes : List Kind
  pub more : Kind
  pub gives : Kind
  pub cause : Cause

-- the values are of these kinds in order, and all further ones are of one kind
abbrev pub HaveKindsThen : List Kind → Kind → List Value → Type 0
HaveKindsThen [] more vs = Each (λ v. HasKind more v) vs
HaveKindsThen (k ∷ ks) more [] = ⊥
HaveKindsThen (k ∷ ks) more (v ∷ vs) = HasKind k v × HaveKindsThen ks more vs

-- a call with exactly these arguments, which never fails
abbrev on : List Kind → Kind → Overload
on takes gives = record { takes = takes; more = never; gives = gives; cause = nothing }

-- one that may fail
abbrev failing_on : List Kind → Kind → Cause → Overload
failing_on takes gives cause = record { takes = takes; more = never; gives = gives; cause = cause }

-- the same with further arguments
abbrev on_more : List Kind → Kind → Kind → Overload
on_more takes more gives = record { takes = takes; more = more; gives = gives; cause = nothing }

-- the same, which may fail by what the arguments hold
abbrev failing_on_more : List Kind → Kind → Kind → Overload
failing_on_more takes more gives = record { takes = takes; more = more; gives = gives; cause = content }

-- what a call returns with arguments of unknown kinds, if it doesn't fail
abbrev maybe : Kind → Overload
maybe gives = failing_on_more [] any gives

-- a map with names as keys
abbrev named : Kind → Kind
named k = map (others k)

-- `sort`: integers or strings, and perhaps a direction
abbrev pub on_sorting : Kind → List Overload
on_sorting k =
    on (array integer ∷ []) (array integer)
    ∷ on (array string ∷ []) (array string)
    ∷ failing_on (array integer ∷ string ∷ []) (array integer) (direction_at 1)
    ∷ failing_on (array string ∷ string ∷ []) (array string) (direction_at 1)
    ∷ failing_on_more (array k ∷ []) string (array k)
    ∷ []

-- no value of the kind is an array
abbrev pub is_flat : Kind → Bool
is_flat any = false
is_flat (array item) = false
is_flat (nilable k) = is_flat k
is_flat k = true

-- `flatten` of arrays whose depth is known
abbrev pub flat_overloads : Kind → List Overload
flat_overloads k = on (array k ∷ []) (array k) ∷ on (array (array k) ∷ []) (array k) ∷ []

-- those on arrays and maps, for each kind of items
abbrev pub on_collections : CollectionCall → Kind → List Overload
on_collections collection.Len k = on (string ∷ []) integer ∷ on (array any ∷ []) integer ∷ on (bytes ∷ []) integer ∷ on (named any ∷ []) integer ∷ on (keyed any ∷ []) integer ∷ maybe integer ∷ []
on_collections collection.First k = on (array k ∷ []) (nilable k) ∷ []
on_collections collection.Last k = on (array k ∷ []) (nilable k) ∷ []
on_collections collection.Take k = failing_on (array k ∷ integer ∷ []) (array k) (negative_at 1) ∷ maybe (array any) ∷ []
on_collections collection.Reverse k = on (array k ∷ []) (array k) ∷ maybe (array any) ∷ []
on_collections collection.Uniq k = on (array k ∷ []) (array k) ∷ maybe (array any) ∷ []
on_collections collection.Flatten k = on (array any ∷ []) (array any) ∷ maybe (array any) ∷ (if is_flat k then flat_overloads k else [])
on_collections collection.Concat k = on_more (array k ∷ []) (array k) (array k) ∷ maybe (array any) ∷ []
on_collections collection.Keys k = on (named any ∷ []) (array string) ∷ on (keyed any ∷ []) (array any) ∷ maybe (array any) ∷ []
on_collections collection.Values k = on (named any ∷ []) (array any) ∷ on (keyed k ∷ []) (array k) ∷ maybe (array any) ∷ []
on_collections collection.ToPairs k = on (named any ∷ []) (array (array any)) ∷ on (keyed any ∷ []) (array (array any)) ∷ maybe (array any) ∷ []
on_collections collection.Get k = on (array k ∷ integer ∷ []) (nilable k) ∷ on (bytes ∷ integer ∷ []) (nilable integer) ∷ on (named k ∷ string ∷ []) (nilable k) ∷ on (keyed k ∷ any ∷ []) (nilable k) ∷ []
on_collections collection.Join k = on (array string ∷ []) string ∷ on (array string ∷ string ∷ []) string ∷ maybe string ∷ []
on_collections collection.FromPairs k = failing_on (array (array k) ∷ []) (keyed k) content ∷ maybe (keyed any) ∷ []

-- those on strings
abbrev pub on_strings : TextCall → List Overload
on_strings text.HasPrefix = on (string ∷ string ∷ []) bool ∷ maybe bool ∷ []
on_strings text.HasSuffix = on (string ∷ string ∷ []) bool ∷ maybe bool ∷ []
on_strings text.Trim = on (string ∷ []) string ∷ on (string ∷ string ∷ []) string ∷ maybe string ∷ []
on_strings text.TrimPrefix = on (string ∷ []) string ∷ on (string ∷ string ∷ []) string ∷ maybe string ∷ []
on_strings text.TrimSuffix = on (string ∷ []) string ∷ on (string ∷ string ∷ []) string ∷ maybe string ∷ []
on_strings text.Upper = on (string ∷ []) string ∷ maybe string ∷ []
on_strings text.Lower = on (string ∷ []) string ∷ maybe string ∷ []
on_strings text.Split = on (string ∷ string ∷ []) (array string) ∷ on (string ∷ string ∷ integer ∷ []) (array string) ∷ maybe (array string) ∷ []
on_strings text.SplitAfter = on (string ∷ string ∷ []) (array string) ∷ on (string ∷ string ∷ integer ∷ []) (array string) ∷ maybe (array string) ∷ []
on_strings text.Replace = on (string ∷ string ∷ string ∷ []) string ∷ on (string ∷ string ∷ string ∷ integer ∷ []) string ∷ maybe string ∷ []
on_strings text.Repeat = failing_on (string ∷ integer ∷ []) string content ∷ maybe string ∷ []
on_strings text.IndexOf = on (string ∷ string ∷ []) integer ∷ maybe integer ∷ []
on_strings text.LastIndexOf = on (string ∷ string ∷ []) integer ∷ maybe integer ∷ []

-- those that convert values
abbrev pub on_conversions : ConversionCall → List Overload
on_conversions conversion.Int = on (integer ∷ []) integer ∷ failing_on (string ∷ []) integer content ∷ maybe integer ∷ []
on_conversions conversion.String = on (any ∷ []) string ∷ []
on_conversions conversion.Type = on (any ∷ []) string ∷ []

-- `max` and `min`: of integers, and of arrays of them, which may be empty
abbrev extremes : List Overload
extremes =
    on_more (integer ∷ []) integer integer
    ∷ on_more (integer ∷ []) (array integer) integer
    ∷ on_more (array integer ∷ integer ∷ []) integer integer
    ∷ on_more (array integer ∷ []) (array integer) (nilable integer)
    ∷ maybe (nilable integer)
    ∷ []

-- a call that always fails
abbrev always_failing : List Overload
always_failing = maybe never ∷ []

-- those on numbers: the language has no fractions
abbrev pub on_numbers : NumberCall → List Overload
on_numbers number.Abs = on (integer ∷ []) integer ∷ maybe integer ∷ []
on_numbers number.Max = extremes
on_numbers number.Min = extremes
on_numbers c = always_failing

-- those on bits
abbrev pub on_bits : BitCall → List Overload
on_bits bit.Bitnot = on (integer ∷ []) integer ∷ maybe integer ∷ []
on_bits bit.Bitshl = failing_on (integer ∷ integer ∷ []) integer (negative_at 1) ∷ maybe integer ∷ []
on_bits bit.Bitshr = failing_on (integer ∷ integer ∷ []) integer (negative_at 1) ∷ maybe integer ∷ []
on_bits bit.Bitushr = failing_on (integer ∷ integer ∷ []) integer (negative_at 1) ∷ maybe integer ∷ []
on_bits c = on (integer ∷ integer ∷ []) integer ∷ maybe integer ∷ []

-- those for encodings
abbrev pub on_encodings : EncodingCall → List Overload
on_encodings encoding.FromJson = failing_on (string ∷ []) any content ∷ []
on_encodings encoding.ToJson = failing_on (any ∷ []) string content ∷ []
on_encodings encoding.ToBase64 = on (string ∷ []) string ∷ maybe string ∷ []
on_encodings encoding.FromBase64 = failing_on (string ∷ []) string content ∷ maybe string ∷ []

-- those on time
abbrev pub on_times : TimeCall → List Overload
on_times time.Date = failing_on_more (string ∷ []) string datetime ∷ failing_on_more (timezone ∷ []) string datetime ∷ maybe datetime ∷ []
on_times time.Duration = failing_on (string ∷ []) duration content ∷ maybe duration ∷ []
on_times time.Now = failing_on [] datetime content ∷ []
on_times time.Timezone = failing_on (string ∷ []) timezone content ∷ maybe timezone ∷ []

-- all overloads of a built-in, at a kind
unfoldable pub overloads : ValueCall → Kind → List Overload
overloads Sort k = on_sorting k
overloads (Collection c) k = on_collections c k
overloads (Text c) k = on_strings c
overloads (Conversion c) k = on_conversions c
overloads (Number c) k = on_numbers c
overloads (Bit c) k = on_bits c
overloads (Encoding c) k = on_encodings c
overloads (Time c) k = on_times c
