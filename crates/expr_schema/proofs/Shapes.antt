-- The kind that each form of kind in memory stands for.
use Rattle.std.proofs.Common.{◌≡◌, rules}
use Rattle.expr_schema.specs.Kinds.{any, never, nil, bool, integer, string, bytes, duration, month, weekday, datetime, timezone, array, map, keyed, nilable}
use Rattle.expr_schema.specs.KindView.{fields_from, kind_view, fields_view, entry_view, named_of, others_of}
use Rattle.expr_schema.specs.declared.kind.Kind.{Kind, the_lemmas}
use Rattle.expr_schema.specs.declared.kind.Kind.TheVariants as memory
use Rattle.expr_schema.specs.declared.kind.Fields.{Fields}
use Rattle.expr_schema.specs.declared.kind.FieldKind.{FieldKind, out-FieldKind}

pub kind_view-Any : kind_view memory.Any ≡ any
kind_view-Any = search (rules, the_lemmas)

pub kind_view-Never : kind_view memory.Never ≡ never
kind_view-Never = search (rules, the_lemmas)

pub kind_view-Nil : kind_view memory.Nil ≡ nil
kind_view-Nil = search (rules, the_lemmas)

pub kind_view-Bool : kind_view memory.Bool ≡ bool
kind_view-Bool = search (rules, the_lemmas)

pub kind_view-Integer : kind_view memory.Integer ≡ integer
kind_view-Integer = search (rules, the_lemmas)

pub kind_view-String : kind_view memory.String ≡ string
kind_view-String = search (rules, the_lemmas)

pub kind_view-Bytes : kind_view memory.Bytes ≡ bytes
kind_view-Bytes = search (rules, the_lemmas)

pub kind_view-Duration : kind_view memory.Duration ≡ duration
kind_view-Duration = search (rules, the_lemmas)

pub kind_view-Month : kind_view memory.Month ≡ month
kind_view-Month = search (rules, the_lemmas)

pub kind_view-Weekday : kind_view memory.Weekday ≡ weekday
kind_view-Weekday = search (rules, the_lemmas)

pub kind_view-DateTime : kind_view memory.DateTime ≡ datetime
kind_view-DateTime = search (rules, the_lemmas)

pub kind_view-Timezone : kind_view memory.Timezone ≡ timezone
kind_view-Timezone = search (rules, the_lemmas)

pub kind_view-Array : (k : Kind) → kind_view (memory.Array k) ≡ array (kind_view k)
kind_view-Array k = search (rules, the_lemmas)

pub kind_view-KeyedMap : (k : Kind) → kind_view (memory.KeyedMap k) ≡ keyed (kind_view k)
kind_view-KeyedMap k = search (rules, the_lemmas)

pub kind_view-Nilable : (k : Kind) → kind_view (memory.Nilable k) ≡ nilable (kind_view k)
kind_view-Nilable k = search (rules, the_lemmas)

pub kind_view-Map : (f : Fields) → kind_view (memory.Map f) ≡ map (fields_view f)
kind_view-Map f = search (rules, the_lemmas)

pub fields_view-parts : (f : Fields) → fields_view f ≡ fields_from (named_of f) (others_of f)
fields_view-parts f = search (rules, the_lemmas)

pub entry_view-kind : (f : FieldKind) → (entry_view f).kind ≡ kind_view (out-FieldKind f).kind
entry_view-kind f = search (rules, the_lemmas)

pub entry_view-required : (f : FieldKind) → (entry_view f).required ≡ (out-FieldKind f).required
entry_view-required f = search (rules, the_lemmas)
