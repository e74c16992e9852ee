-- The kinds that operators take and return, as tables.
use Rattle.std.specs.Prelude.{List, [], ◌∷◌}
use Rattle.expr_functions.specs.declared.operator.Operator.{Operator}
use Rattle.expr_functions.specs.declared.operator.Operator.TheVariants.{Add, Subtract, Multiply, Divide, Modulo, Pow, Equal, NotEqual, GreaterThan, GreaterThanOrEqual, LessThan, LessThanOrEqual, In, NotIn, Contains, StartsWith, EndsWith}
use Rattle.expr_functions.specs.declared.operator.UnaryOperator.{UnaryOperator}
use Rattle.expr_functions.specs.declared.operator.UnaryOperator.TheVariants.{Not, Positive, Negative}
use Rattle.expr_kinds.specs.Causes.{Cause, nothing, content, zero_at}
use Rattle.expr_schema.specs.Kinds.{Kind, any, never, nil, bool, integer, string, bytes, duration, month, weekday, datetime, timezone, array, map, keyed, nilable, others}

-- A row: with values of these kinds on its sides, an operator returns one of a kind, or an error by a cause.
pub record OperatorRow : Type 0 where
  pub left : Kind
  pub right : Kind
  pub gives : Kind
  pub cause : Cause

-- a row without an error, and one that may fail by a cause
abbrev row : Kind → Kind → Kind → OperatorRow
row a b k = record { left = a; right = b; gives = k; cause = nothing }

abbrev failing_row : Kind → Kind → Kind → Cause → OperatorRow
failing_row a b k cause = record { left = a; right = b; gives = k; cause = cause }

-- what an operator returns for values of unknown kinds, if it doesn't fail: a boolean, or an integer
abbrev maybe_bool : OperatorRow
maybe_bool = failing_row any any bool content

abbrev maybe_integer : OperatorRow
maybe_integer = failing_row any any integer content

-- a map with names as keys
abbrev some_map : Kind
some_map = map (others any)

-- two values of one kind that has an order
abbrev orders : List OperatorRow
orders = row integer integer bool ∷ row string string bool ∷ row duration duration bool ∷ row datetime datetime bool ∷ maybe_bool ∷ []

-- two values whose kinds may be compared: not a month or weekday with an integer, and not a map with names as keys with
-- one with scalar keys
abbrev equalities : List OperatorRow
equalities =
    row nil any bool ∷ row any nil bool ∷ row (nilable bool) any bool ∷ row any (nilable bool) bool ∷ row (nilable string) any bool ∷ row any (nilable string) bool
    ∷ row (nilable bytes) any bool ∷ row any (nilable bytes) bool ∷ row (nilable duration) any bool ∷ row any (nilable duration) bool
    ∷ row (nilable datetime) any bool ∷ row any (nilable datetime) bool ∷ row (nilable timezone) any bool ∷ row any (nilable timezone) bool
    ∷ row (nilable (array any)) any bool ∷ row any (nilable (array any)) bool ∷ row (nilable integer) (nilable integer) bool
    ∷ row (nilable month) (nilable month) bool ∷ row (nilable weekday) (nilable weekday) bool ∷ row (nilable some_map) (nilable some_map) bool
    ∷ row (nilable (keyed any)) (nilable (keyed any)) bool ∷ maybe_bool ∷ []

-- a value in an array, a name in a map, and a key in a map with scalar keys
abbrev memberships : List OperatorRow
memberships = row any (array any) bool ∷ row string some_map bool ∷ row any (keyed any) bool ∷ maybe_bool ∷ []

-- a quotient and a power are always an error
abbrev always_failing : List OperatorRow
always_failing = failing_row any any never content ∷ []

-- the rows of each operator that evaluates both sides
unfoldable pub rows : Operator → List OperatorRow
rows Add = row integer integer integer ∷ row string string string ∷ row duration duration duration ∷ failing_row datetime duration datetime content ∷ failing_row duration datetime datetime content ∷ []
rows Subtract = row integer integer integer ∷ row duration duration duration ∷ failing_row datetime duration datetime content ∷ failing_row datetime datetime duration content ∷ []
rows Multiply = row integer integer integer ∷ row duration integer duration ∷ row integer duration duration ∷ []
rows Modulo = failing_row integer integer integer (zero_at 1) ∷ maybe_integer ∷ []
rows Equal = equalities
rows NotEqual = equalities
rows GreaterThan = orders
rows GreaterThanOrEqual = orders
rows LessThan = orders
rows LessThanOrEqual = orders
rows In = memberships
rows NotIn = memberships
rows Contains = row string string bool ∷ row (array any) any bool ∷ row some_map string bool ∷ maybe_bool ∷ []
rows StartsWith = row string string bool ∷ maybe_bool ∷ []
rows EndsWith = row string string bool ∷ maybe_bool ∷ []
rows Divide = always_failing
rows Pow = always_failing
rows op = []

-- the kind that a unary operator takes, and returns
abbrev pub unary_kind : UnaryOperator → Kind
unary_kind Not = bool
unary_kind Positive = integer
unary_kind Negative = integer
