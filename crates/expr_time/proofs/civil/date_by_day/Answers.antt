use Rattle.std.proofs.Common.{◌≡◌, pos, arith, rules, to_z, sym, ap, ◌∙◌}
use Rattle.std.specs.Int.{w16}
use Rattle.std.proofs.lemmas.Bool.{false≢true}
use Rattle.jiff_core.proofs.SignedLemmas.{signed_arith}
use Rattle.jiff.specs.Words.{days_in_year}
use Rattle.expr_time.proofs.Dated.{ordinal_in_year}
use Rattle.expr_time.proofs.civil.date_by_day.Goals as goal

pub returns-then-day-gt366 : goal.returns-then-day-gt366
returns-then-day-gt366 c = λ d year same. omega (arith, ordinal_in_year d, c.if-day-gt366.true)

pub returns-in-Err : goal.returns-in-Err
returns-in-Err c = λ d year same.
    let y : to_z w16 c.args.year ≡ pos c.args.year = search rules in
    let n : to_z w16 c.args.day ≡ pos c.args.day = search rules in
    let days = ap days_in_year (y ∙ sym year) in
    let long = ordinal_in_year d in
    absurd (false≢true (c.in-Err.ensures.succeeds.1 (omega (arith, signed_arith), omega (arith, signed_arith))))
