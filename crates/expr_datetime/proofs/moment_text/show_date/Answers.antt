use Rattle.std.proofs.Common.{◌++◌, ◌∙◌, ap, codes, rules, w16}
use Rattle.std.proofs.Output.{has_written_append, has_written_of_eq}
use Rattle.std.proofs.lemmas.Int.{to_z-of_z}
use mir.Val.{SFits}
use Rattle.expr_datetime.specs.Calendar.{plain_day}
use Rattle.expr_datetime.specs.Digits.{digits}
use Rattle.expr_datetime.specs.Moments.{date_text, year_text}
use Rattle.expr_datetime.proofs.moment_text.show_date.Goals as goal

pub returns : goal.returns
unfolding Rattle.expr_datetime.specs.Moments.date_text
returns g c plain ok =
    let d = c.to_plain-date.result in
    let fits : SFits w16 d.year = search rules in
    let year = c.show_year.ensures plain (search rules) in
    let dash = c.write_str.ensures.writes year.plain (search rules) in
    let month = c.show_digits.ensures dash.plain (search rules) in
    let dash_too = c.write_str-2.ensures.writes month.plain (search rules) in
    let day = c.show_digits-2.ensures dash_too.plain ok in
    let to_month = has_written_append _ _ _ _ _ _ (has_written_append _ _ _ _ _ _ year dash) month in
    has_written_of_eq _ _ _ _ _
    (ap (λ y. year_text y ++ codes "-" ++ digits 2 d.month ++ codes "-" ++ digits 2 d.day) (to_z-of_z w16 d.year fits) ∙ ap (λ e. date_text (plain_day e)) c.to_plain-date.ensures)
    (has_written_append _ _ _ _ _ _ (has_written_append _ _ _ _ _ _ to_month dash_too) day)
