-- The kind that a kind in memory stands for.
use Rattle.std.specs.Prelude.{◌≡◌, ℕ, Bool, false, List, [], ◌∷◌, Option, Some, None, map as each, option_map}
use Rattle.expr_schema.specs.Kinds.{Kind, any, never, nil, bool, integer, string, bytes, duration, month, weekday, datetime, timezone, array, map, keyed, nilable, Fields, no_others, others, field, Found, HasKind, StandsAt}
use Rattle.expr_value.specs.declared.value.Value.{Value}
use Rattle.expr_schema.specs.declared.kind.Kind.{fold-Kind}
use Rattle.expr_schema.specs.declared.kind.Kind as memory
use Rattle.expr_schema.specs.declared.kind.Fields as memory_fields
use Rattle.expr_schema.specs.declared.kind.Fields.{fold-Fields, out-Fields}
use Rattle.expr_schema.specs.declared.kind.FieldKind as memory_field
use Rattle.expr_schema.specs.declared.kind.FieldKind.{fold-FieldKind}
use Rattle.expr_schema.specs.declared.kind.Kind.TheOpen.{Kind-F, Fields-F, FieldKind-F}

-- what stands at a name: a value of a kind, and whether there must be one
pub record Entry : Type 0 where
  pub kind : Kind
  pub required : Bool

-- names with what stands there, and what stands at the others
abbrev pub fields_from : List (List ℕ × Entry) → Option Kind → Fields
fields_from [] None = no_others
fields_from [] (Some kind) = others kind
fields_from (p ∷ ps) rest = field p.0 p.1.kind p.1.required (fields_from ps rest)

abbrev kind_step : Kind-F Kind Entry Fields → Kind
kind_step Kind-F.Any = any
kind_step Kind-F.Never = never
kind_step Kind-F.Nil = nil
kind_step Kind-F.Bool = bool
kind_step Kind-F.Integer = integer
kind_step Kind-F.String = string
kind_step Kind-F.Bytes = bytes
kind_step Kind-F.Duration = duration
kind_step Kind-F.Month = month
kind_step Kind-F.Weekday = weekday
kind_step Kind-F.DateTime = datetime
kind_step Kind-F.Timezone = timezone
kind_step (Kind-F.Array item) = array item
kind_step (Kind-F.Map fields) = map fields
kind_step (Kind-F.KeyedMap item) = keyed item
kind_step (Kind-F.Nilable kind) = nilable kind

abbrev fields_step : Fields-F Kind Entry Fields → Fields
fields_step f = fields_from f.named f.others

abbrev field_step : FieldKind-F Kind Entry Fields → Entry
field_step f = record { kind = f.kind; required = f.required }

abbrev pub kind_view : memory.Kind → Kind
kind_view = fold-Kind Kind Entry Fields kind_step field_step fields_step

abbrev pub fields_view : memory_fields.Fields → Fields
fields_view = fold-Fields Kind Entry Fields kind_step field_step fields_step

abbrev pub entry_view : memory_field.FieldKind → Entry
entry_view = fold-FieldKind Kind Entry Fields kind_step field_step fields_step

-- the names of fields in memory, and what stands at the others
abbrev pub named_of : memory_fields.Fields → List (List ℕ × Entry)
named_of f = each (λ p. (p.0, entry_view p.1)) (out-Fields f).named

abbrev pub others_of : memory_fields.Fields → Option Kind
others_of f = option_map kind_view (out-Fields f).others

-- what an entry, or what is said of the other names, lets stand
abbrev pub StandsBy : Option Entry → Option Kind → Option Value → Type 0
StandsBy (Some s) o found = Found s.required (λ v. HasKind s.kind v) found
StandsBy None (Some kind) found = Found false (λ v. HasKind kind v) found
StandsBy None None found = found ≡ None

-- what an entry lets stand, fields let stand at a name
abbrev pub LetsEntry : Entry → Fields → List ℕ → Type 0
LetsEntry s b name = (found : Option Value) → Found s.required (λ v. HasKind s.kind v) found → StandsAt b name found

-- what stands at other names, an entry lets stand
abbrev pub LetsOthers : Option Kind → Entry → Type 0
LetsOthers o s = (found : Option Value) → StandsBy None o found → Found s.required (λ v. HasKind s.kind v) found
