-- What the work of an instruction depends on: the bytes, the parts and the weights of its values.
use Rattle.std.specs.Prelude.{ℕ, zero, suc, ◌+◌, ◌*◌, ◌/◌, ◌<◌, ◌≡◌, ◌==◌, List, [], ◌∷◌, count_by, length, max, sum, sum_by, Option, MatchOption}
use Rattle.std.specs.Map.{values_of}
use Rattle.expr_limits.specs.Sizes.{byte_units, weight}
use Rattle.expr_costs.specs.declared.cost.Cost.{Cost}
use Rattle.expr_value.specs.declared.value.Value as value
use Rattle.expr_value.specs.declared.value.Value.{Value, fold-Value, out-Value}
use Rattle.expr_value.specs.declared.value.Value.TheOpen.{Value-F}

-- the number of bytes of a string or of bytes; other values have none
abbrev pub byte_count_layer : Value-F Value → ℕ
byte_count_layer (Value-F.String s) = length s
byte_count_layer (Value-F.Bytes bs) = length bs
byte_count_layer layer = 0

abbrev pub byte_count : Value → ℕ
byte_count v = byte_count_layer (out-Value v)

-- that number in units of 16 bytes
abbrev pub byte_units_of : Value → ℕ
byte_units_of v = byte_units (byte_count v)

abbrev pub all_byte_units : List Value → ℕ
all_byte_units vs = sum_by byte_units_of vs

-- the number of colons among these bytes
abbrev pub colons : List ℕ → ℕ
colons bytes = count_by (λ b. b == 58) bytes

-- the number of colons in a string or in bytes; other values have none
abbrev pub colons_layer : Value-F Value → ℕ
colons_layer (Value-F.String s) = colons s
colons_layer (Value-F.Bytes bs) = colons bs
colons_layer layer = 0

abbrev pub colons_of : Value → ℕ
colons_of v = colons_layer (out-Value v)

-- the number of entries of a map; other values have none
abbrev pub entries_layer : Value-F Value → ℕ
entries_layer (Value-F.Map m) = length m
entries_layer (Value-F.KeyedMap m) = length m
entries_layer layer = 0

abbrev pub entry_count : Value → ℕ
entry_count v = entries_layer (out-Value v)

-- the items of an array; other values have none
abbrev pub items_layer : Value-F Value → List Value
items_layer (Value-F.Array vs) = vs
items_layer layer = []

abbrev pub items_in : Value → List Value
items_in v = items_layer (out-Value v)

abbrev pub length_of : Value → ℕ
length_of v = length (items_in v)

-- the number of items of an array, or of entries of a map; other values have none
abbrev pub count_of : Value → ℕ
count_of v = length_of v + entry_count v

-- this many keys go into a map, and all of them may have one hash
abbrev pub insertion_work : ℕ → ℕ
insertion_work n = n * n / 64

-- the number of entries of the maps of one layer, given that of each value inside
abbrev pub entries_inside_layer : Value-F ℕ → ℕ
entries_inside_layer (Value-F.Array ns) = sum ns
entries_inside_layer (Value-F.Map ns) = length ns + sum (values_of ns)
entries_inside_layer (Value-F.KeyedMap ns) = length ns + sum (values_of ns)
entries_inside_layer layer = 0

-- the number of entries in a value and in everything that it contains, also of a map in a map
abbrev pub entries_inside : Value → ℕ
entries_inside = fold-Value ℕ entries_inside_layer

abbrev pub entries_within : List Value → ℕ
entries_within vs = sum_by entries_inside vs

-- what is left of a bound after this is subtracted; none if it is more
abbrev pub IsRemainder : (bound taken : ℕ) → Option ℕ → Type 0
IsRemainder bound taken told = MatchOption told (bound < taken) (λ left. taken + left ≡ bound)

-- a value is read whole, and each entry of a map in it is also a look-up
abbrev pub read_work : Value → ℕ
read_work v = weight v + insertion_work (entries_inside v)

-- the content of a value is read for a comparison, 16 bytes at a time
abbrev pub content_work_layer : (whole : ℕ) → Value-F Value → ℕ
content_work_layer n (Value-F.Bytes bs) = byte_units (length bs)
content_work_layer n (Value-F.Array vs) = n
content_work_layer n (Value-F.Map m) = n
content_work_layer n (Value-F.KeyedMap m) = n
content_work_layer n layer = 0

abbrev pub content_work : Value → ℕ
content_work v = content_work_layer (read_work v) (out-Value v)

abbrev pub all_content_work : List Value → ℕ
all_content_work vs = sum_by content_work vs

-- each of some values is compared with the others
abbrev pub pairwise_work : List Value → ℕ
pairwise_work vs = all_content_work vs + length vs * all_content_work vs

-- the part of a value at a key is looked up, among the keys of a map, which may all have one hash
abbrev pub lookup_work : Value → Value → ℕ
lookup_work v key = entry_count v / 32 + byte_units_of key

-- the argument at a position, and nil if there are fewer
abbrev pub argument : ℕ → List Value → Value
argument n [] = value.Nil
argument zero (v ∷ vs) = v
argument (suc n) (v ∷ vs) = argument n vs

-- the second string cuts the first into at most this many most_pieces
abbrev pub most_pieces : List Value → ℕ
most_pieces vs = 2 + byte_count (argument 0 vs) / max 1 (byte_count (argument 1 vs))

-- a number is computed up to a bound: none means that it is greater
abbrev pub UpTo : ℕ → ℕ → {A : Type 0} → (A → ℕ) → Option A → Type 0
UpTo bound n number told = MatchOption told (bound < n) (λ m. number m ≡ n)

-- a cost is computed up to a bound: none means that its work, with the room for what it builds, is greater
abbrev pub CostUpTo : ℕ → (work room : ℕ) → Option Cost → Type 0
CostUpTo bound work room told = MatchOption told (bound < work + room) (λ cost. (cost.work ≡ work) × (cost.room ≡ room))
