-- Fields that let stand what two others do.
use Rattle.std.specs.Prelude.{◌≡◌, ℕ, List, Option, None, bytes_eq}
use Rattle.std.specs.Map.{lookup}
use Rattle.indexmap.specs.IndexMap.{insert_entry}
use Rattle.expr_value.specs.Names.{find}
use Rattle.expr_value.specs.declared.value.Value.{Value}
use Rattle.expr_schema.specs.Kinds.{Kind, Fields, Found, HasKind, StandsAt}
use Rattle.expr_schema.specs.KindView.{Entry, LetsOthers, StandsBy, fields_view, named_of, others_of, entry_view}
use Rattle.expr_schema.specs.declared.kind.FieldKind.{FieldKind}
use Rattle.expr_schema.specs.declared.kind.Fields as memory

-- an entry lets this or nothing stand
abbrev pub EntryHas : Entry → Option Value → Type 0
EntryHas s found = Found s.required (λ v. HasKind s.kind v) found

-- what one entry lets stand, another does
abbrev pub EntryLets : Entry → Entry → Type 0
EntryLets s t = (found : Option Value) → EntryHas s found → EntryHas t found

-- what fields let stand at a name, an entry does
abbrev pub LetsInto : Fields → List ℕ → Entry → Type 0
LetsInto a name s = (found : Option Value) → StandsAt a name found → EntryHas s found

-- what stands at other names by one list of fields, does by another
abbrev pub OthersLet : Option Kind → Option Kind → Type 0
OthersLet a b = (found : Option Value) → StandsBy None a found → StandsBy None b found

-- a field lets stand what two lists of fields do at its name
abbrev pub HoldsBoth : memory.Fields → memory.Fields → List ℕ × FieldKind → Type 0
HoldsBoth a b e = LetsInto (fields_view a) e.0 (entry_view e.1) × LetsInto (fields_view b) e.0 (entry_view e.1)

-- each name of some fields is among others
abbrev pub HasNames : memory.Fields → List (List ℕ × FieldKind) → Type 0
HasNames a m = (name : List ℕ) → lookup (bytes_eq name) m ≡ None → find name (named_of a) ≡ None

-- One field more, which lets stand what an entry does, and what fields do at a name that they don't have.
abbrev pub AddsField : memory.Fields → List ℕ → FieldKind → List (List ℕ × FieldKind) → List (List ℕ × FieldKind) → Type 0
AddsField a name entry before after =
    (g : FieldKind) × (after ≡ insert_entry bytes_eq before name g) × LetsOthers (others_of a) (entry_view g) × EntryLets (entry_view entry) (entry_view g)
