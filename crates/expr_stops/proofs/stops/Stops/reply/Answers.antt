use Rattle.std.proofs.Common.{sym}
use Rattle.expr_stops.proofs.stops.Stops.reply.Goals as goal

pub returns-in-Ok-clause-given : goal.returns-in-Ok-clause-given
returns-in-Ok-clause-given c = record {
  stop = c.in-Some.stop;
  waited = sym c.in-Some.ensures.value;
  given = c.in-Ok.ensures.items;
  asked = c.take.ensures.after;
}
