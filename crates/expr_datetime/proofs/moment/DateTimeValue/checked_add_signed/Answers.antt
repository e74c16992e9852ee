use Rattle.std.proofs.Common.{◌+ℤ◌, ◌∙◌, ap, arith, w64}
use Rattle.std.specs.Int.{w128}
use Rattle.std.proofs.lemmas.Int.{ints, to_z-of_z}
use mir.Val.{SFits, of_z, to_z}
use Rattle.expr_datetime.specs.ShiftedMoments.{at_instant, at_instant_is}
use Rattle.expr_datetime.specs.Times.{instant, moment_zone}
use Rattle.expr_datetime.proofs.moment.DateTimeValue.checked_add_signed.Goals as goal

pub returns : goal.returns
returns c =
    let n = c.args.nanoseconds in
    let fits : SFits w64 n = c.ranges.nanoseconds in
    let wide_fits : SFits w128 n = omega (arith, ints, fits) in
    let wide = ap (λ m. to_z w128 (of_z w128 m)) (to_z-of_z w64 n fits) ∙ to_z-of_z w128 n wide_fits in
    at_instant_is c.shift.result _ (moment_zone c.args.self) c.shift.ensures.range c.shift.ensures.value
    ∙ ap (λ m. at_instant (instant c.args.self +ℤ m) (moment_zone c.args.self)) wide
