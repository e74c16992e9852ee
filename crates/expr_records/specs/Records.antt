-- Records, and the names that they define.
use Rattle.std.specs.Prelude.{◌≡◌, ◌≢◌, ℕ, List, Option, None, Some, IsUtf8, option_and_then}
use Rattle.expr_context.specs.Contexts.{NamedValues}
use Rattle.expr_encoding.specs.Reading.{json_value}
use Rattle.expr_records.specs.declared.outcome.Refusal.{Refusal}
use Rattle.expr_records.specs.declared.outcome.Refusal.TheVariants.{TooLong, NoMemory, NotText, NotJson, NotObject, Expression, Passed, NotBoolean, NotWritable}
use Rattle.expr_context.specs.Context.{ContextView}
use Rattle.expr_error.specs.ErrorKind.{error_kind, memory}
use Rattle.expr_value.specs.Names.{find}
use Rattle.expr_value.specs.Values.{map_of}
use Rattle.expr_value.specs.declared.value.Value.{Value}

-- the first of two values, or else the second
abbrev pub or_else : Option Value → Option Value → Option Value
or_else (Some v) other = Some v
or_else None other = other

-- The members of a record are names, unless a value has the name already. `$env` is the record.
abbrev pub record_context : NamedValues → NamedValues → ContextView
record_context names members = record { value_of = λ name. or_else (find name names) (find name members); map = members }

-- the members of the object in a string of JSON, if there is one
abbrev pub members_of : List ℕ → Option NamedValues
members_of text = option_and_then map_of (json_value text)

-- a string of JSON, in UTF-8, which is an object with these members
pub record IsRecord (text : List ℕ) (members : NamedValues) : Type 0 where
  pub utf8 : IsUtf8 text
  pub object : members_of text ≡ Some members

-- why a string is not a record
abbrev pub MayRefuseText : List ℕ → Refusal → Type 0
MayRefuseText text TooLong = ⊥
MayRefuseText text NoMemory = ⊥
MayRefuseText text NotText = IsUtf8 text → ⊥
MayRefuseText text (NotJson error) = error_kind error ≢ memory → json_value text ≡ None
MayRefuseText text NotObject = members_of text ≡ None
MayRefuseText text (Expression error) = ⊥
MayRefuseText text (Passed passed) = ⊥
MayRefuseText text NotBoolean = ⊥
MayRefuseText text (NotWritable error) = ⊥
