use Rattle.std.proofs.Common.{ap, ◌∙◌, inl, inr}
use Rattle.expr_schema.specs.Kinds.{datetime, duration, month, timezone, weekday}
use Rattle.expr_schema.specs.KindView.{kind_view}
use Rattle.expr_schema.proofs.Shapes.{kind_view-DateTime, kind_view-Duration, kind_view-Month, kind_view-Timezone, kind_view-Weekday}
use Rattle.expr_kinds.proofs.Judged.{fits-same, if-some}
use Rattle.expr_kinds.proofs.methods.method_row.Goals as goal

pub returns-in-Some : goal.returns-in-Some
returns-in-Some c = inl (fits-same (kind_view c.args.kind.now) duration (ap kind_view c.in-Duration.is ∙ kind_view-Duration), c.in-Some.method, c.in-Some.ensures, c.duration_row.ensures)

pub returns-in-Some-from_name : goal.returns-in-Some-from_name
returns-in-Some-from_name c =
    inr (inl (fits-same (kind_view c.args.kind.now) datetime (ap kind_view c.in-DateTime.is ∙ kind_view-DateTime), c.in-Some-from_name.method, c.in-Some-from_name.ensures, c.moment_row.ensures))

pub returns-in-Timezone : goal.returns-in-Timezone
returns-in-Timezone c =
    let fits = fits-same (kind_view c.args.kind.now) timezone (ap kind_view c.in-Timezone.is ∙ kind_view-Timezone) in
    if-some c.named_row.result _ _ (λ r (m, q, same). inr (inr (inl fits, m, q, same))) c.named_row.ensures

pub returns-in-Month : goal.returns-in-Month
returns-in-Month c =
    let fits = fits-same (kind_view c.args.kind.now) month (ap kind_view c.in-Month.is ∙ kind_view-Month) in
    if-some c.named_row-in-Month.result _ _ (λ r (m, q, same). inr (inr (inr (inl fits), m, q, same))) c.named_row-in-Month.ensures

pub returns-in-Weekday : goal.returns-in-Weekday
returns-in-Weekday c =
    let fits = fits-same (kind_view c.args.kind.now) weekday (ap kind_view c.in-Weekday.is ∙ kind_view-Weekday) in
    if-some c.named_row-in-Weekday.result _ _ (λ r (m, q, same). inr (inr (inr (inr (inl fits)), m, q, same))) c.named_row-in-Weekday.ensures
