-- What is known of the names and functions of a host, and for which contexts it holds.
use Rattle.std.specs.Prelude.{◌≡◌, ℕ, List, Option, Some, None}
use Rattle.expr_context.specs.Context.{ContextView}
use Rattle.expr_value.specs.Names.{find}
use Rattle.expr_value.specs.declared.value.Value.{Value}
use Rattle.expr_schema.specs.Kinds.{Kind, Fields, StandsAt, Effect}

-- A function of a host. With arguments of these kinds it returns a value of a kind, or an error that the effect admits.
pub record Signature : Type 0 where
  pub arguments : List Kind
  pub gives : Kind
  pub effect : Effect

-- the fields of `$env`, the names that have values, and the functions that a host has added
pub record Scope : Type 0 where
  pub environment : Fields
  pub names : Fields
  pub functions : List ℕ → Option Signature

-- a context has what a scope says of `$env` and of each name
pub record Conforms (s : Scope) (ctx : ContextView) : Type 0 where
  pub environment : (key : List ℕ) → StandsAt s.environment key (find key ctx.map)
  pub names : (key : List ℕ) → StandsAt s.names key (ctx.value_of key)

-- what a map has at each name may stand there
abbrev pub AllStand : Fields → List (List ℕ × Value) → Type 0
AllStand fields m = (name : List ℕ) → StandsAt fields name (find name m)

-- the value of a name in a map may stand there
abbrev pub ValueStands : Fields → List (List ℕ × Value) → List ℕ → Type 0
ValueStands fields m name = (v : Value) → find name m ≡ Some v → StandsAt fields name (Some v)

-- the values of a map may stand at their names
abbrev pub ValuesStand : Fields → List (List ℕ × Value) → Type 0
ValuesStand fields m = (name : List ℕ) → ValueStands fields m name

-- nothing has to stand at the names that a map lacks
abbrev pub MissingStand : Fields → List (List ℕ × Value) → Type 0
MissingStand fields m = (name : List ℕ) → find name m ≡ None → StandsAt fields name None
