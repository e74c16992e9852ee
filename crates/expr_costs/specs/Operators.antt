-- The costs of operators: the work of each on two values, and the room for what it builds.
use Rattle.std.specs.Prelude.{ℕ, suc, ◌+◌, ◌*◌, ◌/◌, min}
use Rattle.expr_operators.specs.Positions.{how_many}
use Rattle.expr_functions.specs.declared.operator.Operator.{Operator}
use Rattle.expr_functions.specs.declared.operator.Operator.TheVariants.{Add, Equal, NotEqual, GreaterThan, GreaterThanOrEqual, LessThan, LessThanOrEqual, In, NotIn, Contains, StartsWith, EndsWith, Matches}
use Rattle.expr_limits.specs.Patterns.{pattern_weight as text_weight}
use Rattle.expr_value.specs.declared.value.Value.{Value, out-Value}
use Rattle.expr_value.specs.declared.value.Value.TheOpen.{Value-F}
use Rattle.expr_costs.specs.Measures.{content_work, length_of, byte_units_of, lookup_work}

-- two values are compared
abbrev pub comparison_work : Value → Value → ℕ
comparison_work x y = min (byte_units_of x) (byte_units_of y) + content_work x

-- a value is sought in a string, in an array or among the keys of a map
abbrev pub membership_work : Value → Value → ℕ
membership_work v x = lookup_work v x + 2 * byte_units_of v + (suc (comparison_work x x) + length_of v * suc (comparison_work x x))

-- the weight of a string as a pattern; no other value is a pattern
abbrev pub pattern_layer : Value-F Value → ℕ
pattern_layer (Value-F.String s) = text_weight s
pattern_layer layer = 0

abbrev pub operand_pattern_weight : Value → ℕ
operand_pattern_weight y = pattern_layer (out-Value y)

-- a pattern is compiled from a string and searches another, with a state for each 64 of its weight
abbrev pub match_work : Value → Value → ℕ
match_work x y = 500 + (operand_pattern_weight y + byte_units_of x * (1 + operand_pattern_weight y / 64))

abbrev pub operator_work : Operator → Value → Value → ℕ
operator_work Equal x y = comparison_work x y
operator_work NotEqual x y = comparison_work x y
operator_work GreaterThan x y = min (byte_units_of x) (byte_units_of y)
operator_work GreaterThanOrEqual x y = min (byte_units_of x) (byte_units_of y)
operator_work LessThan x y = min (byte_units_of x) (byte_units_of y)
operator_work LessThanOrEqual x y = min (byte_units_of x) (byte_units_of y)
operator_work In x y = membership_work y x
operator_work NotIn x y = membership_work y x
operator_work Contains x y = membership_work x y
operator_work StartsWith x y = byte_units_of y
operator_work EndsWith x y = byte_units_of y
operator_work Matches x y = match_work x y
operator_work op x y = 0

-- the room for the concatenation of two strings; no other sum needs any
abbrev pub sum_room_layer : (loads : ℕ) → Value-F Value → ℕ
sum_room_layer n (Value-F.String s) = 2 + n
sum_room_layer n layer = 0

abbrev pub sum_room : Value → Value → ℕ
sum_room x y = sum_room_layer (byte_units_of x + byte_units_of y) (out-Value x)

abbrev pub operator_room : Operator → Value → Value → ℕ
operator_room Add x y = sum_room x y
operator_room Matches x y = operand_pattern_weight y
operator_room op x y = 0

-- the number of integers in a range
abbrev pub range_count : Value-F Value → Value-F Value → ℕ
range_count (Value-F.Integer first) (Value-F.Integer last) = how_many first last
range_count x y = 0
