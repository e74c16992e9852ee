use Rattle.std.proofs.Common.{ℕ, ◌/◌, ◌%◌, ◌==◌, [], ◌++◌, cond, codes, rules}
use Rattle.std.specs.Fmt.{HasWritten, decimal}
use Rattle.std.proofs.Output.{has_written_append, has_written_to_eq}
use Rattle.expr_datetime.proofs.Zeros.{unwritten, written}
use Rattle.expr_datetime.proofs.duration.show_clock.Goals as goal
use Rattle.expr_datetime.proofs.duration.show_clock.Goals.{then-hours-ne0+in_ok-write, else-hours-ne0, then-minutes-ne0+in_ok-write-2, else-minutes-ne0}

pub returns : goal.returns
returns g c plain ok =
    let h : ℕ = c.args.parts / 3600000000000 in
    let m : ℕ = c.args.parts / 60000000000 in
    let hours : HasWritten g.W.Write.write_str_gives c.args.f.now (cond (h == 0) [] (decimal h ++ codes "h")) c.if-hours-ne0.f
    = elim c.if-hours-ne0.branch [
      | then-hours-ne0+in_ok-write w ↦ has_written_to_eq _ _ _ _ _ w.f-is (written _ _ h _ _ w.if-hours-ne0.true (w.write.ensures.writes plain (search rules)))
      | else-hours-ne0 w ↦ has_written_to_eq _ _ _ _ _ w.f-is (unwritten _ _ h _ w.if-hours-ne0.false plain)
    ] in
    let minutes : HasWritten g.W.Write.write_str_gives c.if-hours-ne0.f (cond (m == 0) [] (decimal (m % 60) ++ codes "m")) c.if-minutes-ne0.f
    = elim c.if-minutes-ne0.branch [
      | then-minutes-ne0+in_ok-write-2 w ↦ has_written_to_eq _ _ _ _ _ w.f-is (written _ _ m _ _ w.if-minutes-ne0.true (w.write-then-minutes-ne0.ensures.writes hours.plain (search rules)))
      | else-minutes-ne0 w ↦ has_written_to_eq _ _ _ _ _ w.f-is (unwritten _ _ m _ w.if-minutes-ne0.false hours.plain)
    ] in
    let units = c.show_units.ensures minutes.plain (search rules) in
    let unit = c.write_str.ensures.writes units.plain ok in
    has_written_append _ _ _ _ _ _ (has_written_append _ _ _ _ _ _ (has_written_append _ _ _ _ _ _ hours minutes) units) unit
