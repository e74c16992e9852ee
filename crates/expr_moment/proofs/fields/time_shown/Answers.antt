use Rattle.std.proofs.Common.{ap, ◌∙◌}
use Rattle.expr_datetime.specs.Calendar.{Clock, plain_clock, time_shown}
use Rattle.expr_moment.proofs.Shown.{time_is_shown}
use Rattle.expr_moment.proofs.fields.time_shown.Goals as goal

pub returns : goal.returns
returns c =
    let same = ap plain_clock c.time.ensures ∙ time_is_shown c.civil.result ∙ ap time_shown c.civil.ensures in
    record {
      time = same;
      hour = ap (λ (t : Clock). t.hour) same;
      minute = ap (λ (t : Clock). t.minute) same;
      second = ap (λ (t : Clock). t.second) same;
      nanosecond = ap (λ (t : Clock). t.nanosecond) same;
    }
