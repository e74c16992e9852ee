use Rattle.std.proofs.Common.{ap, ◌∙◌}
use Rattle.expr_schema.specs.Kinds.{array, map, keyed, never, nil, bool, integer, string, bytes, duration, month, weekday, datetime, timezone}
use Rattle.expr_schema.specs.KindView.{fields_view, kind_view}
use Rattle.expr_schema.proofs.Shapes.{kind_view-Never, kind_view-Nil, kind_view-Bool, kind_view-Integer, kind_view-String, kind_view-Bytes, kind_view-Duration, kind_view-Month, kind_view-Weekday, kind_view-DateTime, kind_view-Timezone, kind_view-Array, kind_view-Map, kind_view-KeyedMap}
use Rattle.expr_kinds.proofs.TableKinds.{array-any, map-any, keyed-any}
use Rattle.expr_kinds.proofs.Judged.{fits-same}
use Rattle.expr_kinds.proofs.bases.base_of.Goals as goal

pub returns-in-Never : goal.returns-in-Never
returns-in-Never c = fits-same (kind_view c.args.kind.now) never (ap kind_view c.in-Never.is ∙ kind_view-Never)

pub returns-in-Nil : goal.returns-in-Nil
returns-in-Nil c = fits-same (kind_view c.args.kind.now) nil (ap kind_view c.in-Nil.is ∙ kind_view-Nil)

pub returns-in-Bool : goal.returns-in-Bool
returns-in-Bool c = fits-same (kind_view c.args.kind.now) bool (ap kind_view c.in-Bool.is ∙ kind_view-Bool)

pub returns-in-Integer : goal.returns-in-Integer
returns-in-Integer c = fits-same (kind_view c.args.kind.now) integer (ap kind_view c.in-Integer.is ∙ kind_view-Integer)

pub returns-in-String : goal.returns-in-String
returns-in-String c = fits-same (kind_view c.args.kind.now) string (ap kind_view c.in-String.is ∙ kind_view-String)

pub returns-in-Bytes : goal.returns-in-Bytes
returns-in-Bytes c = fits-same (kind_view c.args.kind.now) bytes (ap kind_view c.in-Bytes.is ∙ kind_view-Bytes)

pub returns-in-Duration : goal.returns-in-Duration
returns-in-Duration c = fits-same (kind_view c.args.kind.now) duration (ap kind_view c.in-Duration.is ∙ kind_view-Duration)

pub returns-in-Month : goal.returns-in-Month
returns-in-Month c = fits-same (kind_view c.args.kind.now) month (ap kind_view c.in-Month.is ∙ kind_view-Month)

pub returns-in-Weekday : goal.returns-in-Weekday
returns-in-Weekday c = fits-same (kind_view c.args.kind.now) weekday (ap kind_view c.in-Weekday.is ∙ kind_view-Weekday)

pub returns-in-DateTime : goal.returns-in-DateTime
returns-in-DateTime c = fits-same (kind_view c.args.kind.now) datetime (ap kind_view c.in-DateTime.is ∙ kind_view-DateTime)

pub returns-in-Timezone : goal.returns-in-Timezone
returns-in-Timezone c = fits-same (kind_view c.args.kind.now) timezone (ap kind_view c.in-Timezone.is ∙ kind_view-Timezone)

pub returns-in-Array : goal.returns-in-Array
returns-in-Array c = λ v h. array-any (kind_view c.in-Array.field-0) v (fits-same (kind_view c.args.kind.now) (array (kind_view c.in-Array.field-0)) (ap kind_view c.in-Array.is ∙ kind_view-Array c.in-Array.field-0) v h)

pub returns-in-Map : goal.returns-in-Map
returns-in-Map c = λ v h. map-any (fields_view c.in-Map.field-0) v (fits-same (kind_view c.args.kind.now) (map (fields_view c.in-Map.field-0)) (ap kind_view c.in-Map.is ∙ kind_view-Map c.in-Map.field-0) v h)

pub returns-in-KeyedMap : goal.returns-in-KeyedMap
returns-in-KeyedMap c = λ v h. keyed-any (kind_view c.in-KeyedMap.field-0) v (fits-same (kind_view c.args.kind.now) (keyed (kind_view c.in-KeyedMap.field-0)) (ap kind_view c.in-KeyedMap.is ∙ kind_view-KeyedMap c.in-KeyedMap.field-0) v h)
