use Rattle.std.proofs.Common.{ap, ◌∙◌, ℤ, ◌+◌, ◌%◌}
use Rattle.std.specs.Int.{int_div_euclid}
use Rattle.expr_datetime.specs.Calendar.{day_length}
use Rattle.jiff.specs.Types.{Date}
use Rattle.jiff.specs.Words.{weekday_of}
unfoldable use Rattle.jiff_core.specs.Calendar.{weekday_number}
use Rattle.expr_moment.proofs.Shown.{weekday_is_shown}
use Rattle.expr_moment.proofs.fields.weekday.Goals as goal

pub returns : goal.returns
returns c =
    c.weekday_of.ensures ∙ ap (λ (d : Date). (weekday_of d + 1) % 7) c.date.ensures ∙ weekday_is_shown c.civil.result
    ∙ ap (λ (n : ℤ). (weekday_number (int_div_euclid n day_length) + 1) % 7) c.civil.ensures
