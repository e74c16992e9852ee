use Rattle.std.proofs.Common.{◌≡◌, ◌+◌, ◌<◌, length, take, subst, sym, ◌∙◌, le_refl, arith, take_all, append-nil}
use Rattle.std.proofs.BufReadLemmas.{Consumes_shown}
use Rattle.std.specs.Io.KnownBytes.{Consumes}
use Rattle.std.specs.Io.BufRead.{FillKeeps}
use Rattle.memchr.specs.Find.{NoneBefore, Nowhere, Passes, is_byte}
use Rattle.expr_records.proofs.LineLemmas.{no_feed_before, through_feed}
use Rattle.expr_records.specs.LineSteps.{HasNoFeed}
use Rattle.expr_records.proofs.lines.take_ready.Goals as goal

pub returns-in-Some-clause-taken : goal.returns-in-Some-clause-taken
returns-in-Some-clause-taken g c =
    let ready = c.in-Ok.ready.now in
    let place = c.in-Some.place in
    let rested = c.fill_buf.follows.lender-at-none in
    let filled = subst (FillKeeps (g.R.Read.remaining c.args.reader.now) (g.R.Read.remaining rested) (g.R.BufRead.consumable_len rested)) c.in-Ok.is c.fill_buf.follows.holds-at-none in
    let found : NoneBefore (Passes (is_byte 10) ready) 0 (length ready) place × Passes (is_byte 10) ready place = c.in-Some.ensures in
    let low : place < length ready = found.0.high in
    let moved = Consumes_shown _ _ _ _ ready (place + 1) (omega (arith, low)) c.in-Ok.ensures.front c.in-Ok.ensures.end filled.0 filled.1 c.consume.ensures.bytes in
    record {
      bytes = take place ready;
      no_feed = no_feed_before ready place (λ k below. found.0.before k (omega arith) below);
      comes = tt;
      consumed = subst (Consumes _ _) (through_feed ready place low found.1) moved.0;
      held = c.add.ensures.added;
    }

pub returns-else-count-eq0-clause-taken : goal.returns-else-count-eq0-clause-taken
returns-else-count-eq0-clause-taken g c =
    let ready = c.in-Ok.ready.now in
    let rested = c.fill_buf.follows.lender-at-none in
    let filled = subst (FillKeeps (g.R.Read.remaining c.args.reader.now) (g.R.Read.remaining rested) (g.R.BufRead.consumable_len rested)) c.in-Ok.is c.fill_buf.follows.holds-at-none in
    let none : Nowhere (Passes (is_byte 10) ready) 0 (length ready) = c.in-None.ensures in
    let whole : take (length ready) ready ≡ ready = take_all (length ready) ready (le_refl _) in
    let moved = Consumes_shown _ _ _ _ ready (length ready) (le_refl _) c.in-Ok.ensures.front c.in-Ok.ensures.end filled.0 filled.1 c.consume-in-None.ensures.bytes in
    record {
      bytes = ready;
      no_feed = subst HasNoFeed whole (no_feed_before ready (length ready) (λ k below. none k (omega arith) below));
      comes = omega (arith, c.if-count-eq0.false);
      consumed = subst (Consumes _ _) (whole ∙ sym (append-nil ready)) moved.0;
      held = c.add-in-None.ensures.added;
    }
