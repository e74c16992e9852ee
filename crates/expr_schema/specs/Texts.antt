-- How kinds and schemas are printed.
use Rattle.std.specs.Prelude.{ℕ, Bool, false, ◌==◌, ◌||◌, List, [], ◌∷◌, ◌++◌, nat_le, codes, if◌then◌else◌}
use Rattle.std.specs.Char.{is_ascii_alphanumeric}
use Rattle.std.specs.List.{list_all}
use Rattle.expr_error.specs.Quoted.{quoted_text}
use Rattle.expr_value.specs.Values.{joined_text}
use Rattle.expr_schema.specs.Kinds.{Kind, any, never, nil, bool, integer, string, bytes, duration, month, weekday, datetime, timezone, array, map, keyed, nilable, Fields, no_others, others, field}

-- a letter or a digit of ASCII, an underscore, or a byte of another character
abbrev pub is_bare_byte : ℕ → Bool
is_bare_byte b = (b == 95 || is_ascii_alphanumeric b) || nat_le 128 b

-- whether a name is printed without quotes
abbrev pub is_bare : List ℕ → Bool
is_bare [] = false
is_bare (b ∷ bs) = list_all is_bare_byte (b ∷ bs)

-- a name, between quotes unless it is a word
abbrev pub shown_name : List ℕ → List ℕ
shown_name name = if is_bare name then name else quoted_text name

-- what stands between a name and its kind
abbrev pub shown_colon : Bool → List ℕ
shown_colon required = if required then codes ": " else codes "?: "

-- a text, but none for any kind
abbrev pub unless_any : Kind → List ℕ → List ℕ
unless_any any text = []
unless_any kind text = text

abbrev mutual
  -- the text of a kind
  pub shown_kind : Kind → List ℕ
  shown_kind any = codes "any"
  shown_kind never = codes "never"
  shown_kind nil = codes "nil"
  shown_kind bool = codes "bool"
  shown_kind integer = codes "int"
  shown_kind string = codes "string"
  shown_kind bytes = codes "bytes"
  shown_kind duration = codes "duration"
  shown_kind month = codes "month"
  shown_kind weekday = codes "weekday"
  shown_kind datetime = codes "datetime"
  shown_kind timezone = codes "timezone"
  shown_kind (array item) = codes "[" ++ shown_kind item ++ codes "]"
  shown_kind (map fields) = codes "{" ++ joined_text (codes ", ") (shown_entries fields) ++ codes "}"
  shown_kind (keyed item) = codes "{*: " ++ shown_kind item ++ codes "}"
  shown_kind (nilable kind) = shown_kind kind ++ codes "?"

  -- a text for each entry, of the names in their order
  pub shown_entries : Fields → List (List ℕ)
  shown_entries no_others = []
  shown_entries (others kind) = (codes "..." ++ unless_any kind (codes ": " ++ shown_kind kind)) ∷ []
  shown_entries (field name kind required rest) = (shown_name name ++ shown_colon required ++ shown_kind kind) ∷ shown_entries rest

-- the entries of fields, with commas between them
abbrev pub shown_fields : Fields → List ℕ
shown_fields fields = joined_text (codes ", ") (shown_entries fields)
