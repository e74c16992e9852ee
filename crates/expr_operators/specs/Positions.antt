-- Ranges, indices and slices on values. For kinds that no line names, the result is an error.
use Rattle.std.specs.Prelude.{ℕ, Bool, false, is_some, ◌+◌, ◌-◌, min, ℤ, pos, negsuc, ◌+ℤ◌, ◌-ℤ◌, int_le, unsigned_abs, List, length, map, take, drop, Option, Result, Ok, Err, encode_utf8_all, if◌then◌else◌}
use Rattle.std.specs.List.{range_with_len}
use Rattle.std.specs.Option.{option_map_or}
use Rattle.bstr.specs.Utf8.{lossy_chars}
use Rattle.expr_error.specs.ErrorKind.{ErrorKind, evaluation}
use Rattle.expr_value.specs.declared.value.Value as value
use Rattle.expr_value.specs.declared.value.Value.{Value, out-Value}
use Rattle.expr_value.specs.declared.value.Value.TheOpen.{Value-F}
use Rattle.expr_value.specs.Answers.{Answer}
use Rattle.expr_value.specs.Names.{find}
use Rattle.expr_value.specs.Values.{at_key}
pub use Rattle.expr_arguments.specs.Parts.{index_answer, index_answer_layers, item_from, or_nil}

-- an array has an item at this key, or a map a field
abbrev pub inside_layers : Value-F Value → Value → Value-F Value → Bool
inside_layers (Value-F.Array items) k (Value-F.Integer n) = is_some (item_from items n)
inside_layers (Value-F.Map m) k (Value-F.String name) = is_some (find name m)
inside_layers (Value-F.KeyedMap m) k key = is_some (at_key k m)
inside_layers v k key = false

abbrev pub inside : Value → Value → Bool
inside v key = inside_layers (out-Value v) key (out-Value key)

-- number of integers from the first to the last, both included: none if the first is greater
unfoldable pub how_many : ℤ → ℤ → ℕ
how_many first last = if int_le first last then unsigned_abs (last -ℤ first) + 1 else 0

-- consecutive integers, from the first on
unfoldable pub in_a_row : ℤ → ℕ → List Value
in_a_row first count = map (λ k. value.Integer (first +ℤ pos k)) (range_with_len 0 count)

-- the integers from the first to the last, both included
abbrev pub integers_between : ℤ → ℤ → List Value
integers_between first last = in_a_row first (how_many first last)

abbrev pub range_answer_layers : Value-F Value → Value-F Value → Answer
range_answer_layers (Value-F.Integer first) (Value-F.Integer last) = Ok (value.Array (integers_between first last))
range_answer_layers a b = Err evaluation

abbrev pub range_answer : Value → Value → Answer
range_answer a b = range_answer_layers (out-Value a) (out-Value b)

-- a bound of a slice is an integer
abbrev pub checked_bound_layer : Value-F Value → Result ℤ ErrorKind
checked_bound_layer (Value-F.Integer n) = Ok n
checked_bound_layer v = Err evaluation

abbrev pub checked_bound : Value → Result ℤ ErrorKind
checked_bound v = checked_bound_layer (out-Value v)

-- The index of a bound among items. A negative bound counts from the end, and a bound outside is moved to the nearest
-- end.
abbrev pub bound_at : ℕ → ℤ → ℕ
bound_at count (pos n) = min n count
bound_at count (negsuc n) = count - (n + 1)

-- where a slice ends: at the end if there is no bound
abbrev pub stop_at : ℕ → Option ℤ → ℕ
stop_at count stop = option_map_or (bound_at count) stop count

-- where it starts: at the front if there is no bound, and never after its end
abbrev pub start_at : ℕ → Option ℤ → Option ℤ → ℕ
start_at count start stop = min (option_map_or (bound_at count) start 0) (stop_at count stop)

-- the items between two bounds
abbrev pub part : {X : Type 0} → Option ℤ → Option ℤ → List X → List X
part start stop xs = drop (start_at (length xs) start stop) (take (stop_at (length xs) stop) xs)

-- the string of some bytes, with U+FFFD for each piece that is no character
abbrev pub lossy_text : List ℕ → List ℕ
lossy_text bytes = encode_utf8_all (lossy_chars bytes)

abbrev pub slice_answer_layer : Value-F Value → Option ℤ → Option ℤ → Answer
slice_answer_layer (Value-F.Array items) start stop = Ok (value.Array (part start stop items))
slice_answer_layer (Value-F.Bytes bytes) start stop = Ok (value.Bytes (part start stop bytes))
slice_answer_layer (Value-F.String text) start stop = Ok (value.String (lossy_text (part start stop text)))
slice_answer_layer v start stop = Err evaluation

abbrev pub slice_answer : Value → Option ℤ → Option ℤ → Answer
slice_answer v start stop = slice_answer_layer (out-Value v) start stop
