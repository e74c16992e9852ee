use Rattle.expr_stops.proofs.Replied.{on_ok}
use Rattle.expr_stops.proofs.stops.Stops.refuse.Goals as goal

pub returns-clause-given : goal.returns-clause-given
returns-clause-given c =
    on_ok c.reply.result (λ p. record { message = c.in_ok-text.text; says = c.in_ok-text.ensures.ok; replied = p }) c.reply.ensures.given
