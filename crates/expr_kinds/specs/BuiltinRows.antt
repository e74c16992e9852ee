-- The table of built-ins in memory.
use Rattle.std.specs.Prelude.{◌≡◌, ◌⊎◌, ℕ, List, [], ◌∷◌, ◌++◌, map as each}
use Rattle.expr_functions.specs.declared.functions.ValueCall.{ValueCall}
use Rattle.expr_schema.specs.KindView.{kind_view}
use Rattle.expr_schema.specs.Kinds.{Kind, any, never, month, weekday, duration, datetime, timezone, array, map, keyed, nilable, others, Fits, Effect}
use Rattle.expr_schema.specs.SchemaView.{effect_of}
use Rattle.expr_schema.specs.Scopes.{Signature}
use Rattle.expr_time.specs.LengthMethods.{name_of as length_method}
use Rattle.expr_time.specs.Moments.{moment_method, name_method}
use Rattle.expr_time.specs.declared.length_method.DurationMethod.{DurationMethod}
use Rattle.expr_time.specs.declared.moments.DateTimeMethod.{DateTimeMethod}
use Rattle.expr_time.specs.declared.moments.TextMethod.{TextMethod}
use Rattle.expr_kinds.specs.Checks.{base_kind, cause_view, literals_view}
use Rattle.expr_kinds.specs.Causes.{effect_under}
use Rattle.expr_kinds.specs.Effects.{CoversEffect}
use Rattle.expr_kinds.specs.Methods.{of_duration, of_moment, of_name}
use Rattle.expr_kinds.specs.Overloads.{Overload, overloads}
use Rattle.expr_kinds.specs.Typed.{AllFit, ByOverload, OneOf, Unknown, Within}
use Rattle.expr_kinds.specs.declared.checked.CheckedArguments.{CheckedArguments}
use Rattle.expr_kinds.specs.declared.checked.Checked.{Checked}
use Rattle.expr_kinds.specs.declared.shapes.CallRow.{CallRow}
use Rattle.expr_kinds.specs.declared.shapes.Shape.{Shape}
use Rattle.expr_kinds.specs.declared.shapes.Shape.TheVariants as shape
use Rattle.expr_kinds.specs.declared.shapes.Takes.{Takes}
use Rattle.expr_kinds.specs.declared.shapes.Takes.TheVariants as takes

-- a kind of the table, where the items are of a kind
abbrev pub shape_kind : Kind → Shape → Kind
shape_kind k (shape.Of b) = base_kind b
shape_kind k (shape.OrNil b) = nilable (base_kind b)
shape_kind k (shape.ArrayOf b) = array (base_kind b)
shape_kind k shape.Arrays = array (array any)
shape_kind k shape.Item = k
shape_kind k shape.ItemOrNil = nilable k
shape_kind k shape.ItemArray = array k
shape_kind k shape.ItemArrays = array (array k)
shape_kind k shape.ItemNames = map (others k)
shape_kind k shape.ItemMap = keyed k

abbrev pub taken_kinds : Kind → Takes → List Kind
taken_kinds k takes.Nothing = []
taken_kinds k (takes.One a) = shape_kind k a ∷ []
taken_kinds k (takes.Two a b) = shape_kind k a ∷ shape_kind k b ∷ []
taken_kinds k (takes.Three a b c) = shape_kind k a ∷ shape_kind k b ∷ shape_kind k c ∷ []
taken_kinds k (takes.Four a b c d) = shape_kind k a ∷ shape_kind k b ∷ shape_kind k c ∷ shape_kind k d ∷ []

-- a kind at the front, and others that fit what is left, fit what is taken
abbrev pub NextFits : Takes → Shape → Shape → Takes → Type 0
NextFits taken more next left =
    (k j : Kind) (ks : List Kind) → Fits j (shape_kind k next) → AllFit ks (taken_kinds k left) (shape_kind k more) → AllFit (j ∷ ks) (taken_kinds k taken) (shape_kind k more)

abbrev pub overload_view : Kind → CallRow → Overload
overload_view k r = record { takes = taken_kinds k r.takes; more = shape_kind k r.more; gives = shape_kind k r.gives; cause = cause_view r.cause }

-- these rows are the first of others
abbrev pub AreFirst : List Overload → List Overload → Type 0
AreFirst some all = (rest : List Overload) × (all ≡ some ++ rest)

-- what a row tells of a call with these arguments, where the items are of some kind
abbrev pub TellsRow : CheckedArguments → CallRow → Checked → Type 0
TellsRow a r c =
    (e : Effect) → CoversEffect e (effect_of c.effect)
    → CoversEffect e (effect_of a.effect)
    × Within (λ k. (x : Kind) × ByOverload e (literals_view a.literals) (each kind_view a.kinds) k (overload_view x r)) (kind_view c.kind)

-- what a check tells of a call of a built-in with these arguments: a kind by one of the overloads, or nothing
abbrev pub TellsBuiltin : CheckedArguments → ValueCall → Checked → Type 0
TellsBuiltin a f c =
    (e : Effect) → CoversEffect e (effect_of c.effect)
    → CoversEffect e (effect_of a.effect)
    × Within (λ k. ((x : Kind) × OneOf (ByOverload e (literals_view a.literals) (each kind_view a.kinds) k) (overloads f x)) ⊎ Unknown e k) (kind_view c.kind)

-- the signature of a method that a row says: it takes no further arguments
abbrev pub method_view : CallRow → Signature
method_view r = record { arguments = taken_kinds never r.takes; gives = shape_kind never r.gives; effect = effect_under (cause_view r.cause) [] }

-- the values of a kind have a method of this name, with a signature
abbrev pub HasMethod : Kind → List ℕ → Signature → Type 0
HasMethod a key sig =
    (Fits a duration × (m : DurationMethod) × (length_method m ≡ key) × (sig ≡ of_duration m))
    ⊎ ((Fits a datetime × (m : DateTimeMethod) × (moment_method m ≡ key) × (sig ≡ of_moment m))
    ⊎ (OneOf (Fits a) (timezone ∷ month ∷ weekday ∷ []) × (m : TextMethod) × (name_method m ≡ key) × (sig ≡ of_name m)))
