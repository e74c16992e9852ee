use Rattle.std.proofs.Common.{◌≡◌, ℤ, ◌+ℤ◌, ◌-ℤ◌, ap, ◌∙◌, arith}
use Rattle.std.proofs.lemmas.Int.{ints}
use Rattle.jiff.specs.Words.{nanos_of_seconds}
unfoldable use Rattle.jiff.specs.Words.{civil_nanos}
use Rattle.expr_datetime.specs.Times.{zone_offset, instant, local_nanos}
use Rattle.expr_datetime.specs.declared.moment.MomentZone.{MomentZone}
use Rattle.expr_datetime.specs.declared.moment.MomentZone.TheVariants.{Fixed}
use Rattle.expr_moment.specs.Zones.{picked_in}
use Rattle.expr_moment.proofs.InZone.{civil_shown}
use Rattle.expr_moment.proofs.zones.civil_at_offset.Goals as goal

back : (n k : ℤ) → n -ℤ k +ℤ k ≡ n
back n k = omega (arith, ints)

pub returns-in-Ok : goal.returns-in-Ok
returns-in-Ok c =
    let t = c.fixed.result in
    let offset = c.args.offset in
    let k = nanos_of_seconds offset.seconds in
    let at : instant t ≡ picked_in (Fixed offset) c.args.civil = c.fixed.ensures.instant ∙ c.in-Ok.ensures.value in
    let shown : local_nanos t ≡ instant t +ℤ k = ap (λ (p : MomentZone). instant t +ℤ nanos_of_seconds (zone_offset p (instant t))) c.fixed.ensures.place in
    let same : local_nanos t ≡ civil_nanos c.args.civil = shown ∙ ap (λ (n : ℤ). n +ℤ k) at ∙ back (civil_nanos c.args.civil) k in
    civil_shown (Fixed offset) c.args.civil t at c.fixed.ensures.place same
