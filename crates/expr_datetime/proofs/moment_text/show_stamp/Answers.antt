use Rattle.std.proofs.Common.{◌∙◌, ap}
use Rattle.std.proofs.Output.{has_written_of_eq}
use Rattle.expr_datetime.specs.Calendar.{plain_day, plain_clock}
use Rattle.expr_datetime.specs.Moments.{stamp_line}
use Rattle.expr_datetime.proofs.Days.{stamp_text-civil_nanos}
use Rattle.expr_datetime.proofs.moment_text.show_stamp.Goals as goal

pub returns : goal.returns
returns g c plain ok =
    let ahead = c.args.ahead.seconds in
    has_written_of_eq _ _ _ _ _
    (ap (λ d. stamp_line (plain_day d) (plain_clock c.time.result) ahead) c.date.ensures ∙ ap (λ t. stamp_line (plain_day c.args.shown.date) (plain_clock t) ahead) c.time.ensures
    ∙ stamp_text-civil_nanos c.args.shown ahead)
    (c.show_stamp_line.ensures plain ok)
