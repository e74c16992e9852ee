use Rattle.std.proofs.Common.{◌≡◌, Some}
use Rattle.expr_time.proofs.Dated.{named_by_day, named_by_month}
use Rattle.expr_time.proofs.civil.named_date.Goals as goal

pub returns-in-Some-Some : goal.returns-in-Some-Some
returns-in-Some-Some c =
    let f = c.args.found.now in
    let year : f.year ≡ Some c.in-Some.year = cc in
    let month : f.month ≡ Some c.in-Some-Some.month = cc in
    let day : f.day ≡ Some c.in-Some-Some.day = cc in
    named_by_month f _ _ _ year month day c.date_by_month.result c.date_by_month.ensures

pub returns-in-Some-year_day : goal.returns-in-Some-year_day
returns-in-Some-year_day c =
    let f = c.args.found.now in
    let year : f.year ≡ Some c.in-Some.year = cc in
    let day : f.year_day ≡ Some c.in-Some-year_day.day = cc in
    named_by_day f _ _ year day c.date_by_day.result c.date_by_day.ensures
