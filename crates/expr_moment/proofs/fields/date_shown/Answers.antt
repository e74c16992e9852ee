use Rattle.std.proofs.Common.{ap, ◌∙◌}
use Rattle.expr_datetime.specs.Calendar.{Day, date_shown, plain_day}
use Rattle.expr_moment.proofs.Shown.{date_is_shown}
use Rattle.expr_moment.proofs.fields.date_shown.Goals as goal

pub returns : goal.returns
returns c =
    let same = ap plain_day c.date.ensures ∙ date_is_shown c.civil.result ∙ ap date_shown c.civil.ensures in
    record { date = same; year = ap (λ (d : Day). d.year) same; month = ap (λ (d : Day). d.month) same; day = ap (λ (d : Day). d.day) same }
