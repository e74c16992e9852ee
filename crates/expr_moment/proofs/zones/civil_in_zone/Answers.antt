use Rattle.std.proofs.Common.{◌≡◌, ℤ, ◌+ℤ◌, ap, sym, ◌∙◌}
use Rattle.std.proofs.lemmas.Bool.Decides.{Decides-int_eq}
use Rattle.jiff.specs.Types.{TimeZone as Rules}
use Rattle.jiff.specs.Words.{nanos_of_seconds, picked_instant}
unfoldable use Rattle.jiff.specs.Words.{civil_nanos, offset_at}
use Rattle.expr_datetime.specs.Times.{zone_offset, instant, local_nanos, moment_zone, rules_of}
use Rattle.expr_datetime.specs.declared.moment.MomentZone.{MomentZone}
use Rattle.expr_datetime.specs.declared.moment.MomentZone.TheVariants.{Named}
use Rattle.expr_moment.specs.Zones.{picked_in}
use Rattle.expr_moment.proofs.InZone.{civil_shown}
use Rattle.expr_moment.proofs.zones.civil_in_zone.Goals as goal

pub returns-then-eq-clause-ok : goal.returns-then-eq-clause-ok
returns-then-eq-clause-ok c =
    let t = c.zoned.result in
    let zone = c.args.zone.now in
    let civil = c.args.civil in
    let n = c.in-Ok.timestamp.nanosecond in
    let place : moment_zone t ≡ Named zone = c.zoned.ensures.place ∙ ap Named c.in_ok-clone.ensures.cases in
    let at : instant t ≡ picked_in (Named zone) civil = c.zoned.ensures.instant ∙ c.in-Ok.ensures.value ∙ ap (λ (r : Rules). picked_instant r civil) c.timezone-rules.ensures in
    let in_place : local_nanos t ≡ instant t +ℤ nanos_of_seconds (offset_at (rules_of zone) (instant t)) = ap (λ (p : MomentZone). instant t +ℤ nanos_of_seconds (zone_offset p (instant t))) place in
    let at_time : local_nanos t ≡ n +ℤ nanos_of_seconds (offset_at (rules_of zone) n) = in_place ∙ ap (λ (k : ℤ). k +ℤ nanos_of_seconds (offset_at (rules_of zone) k)) c.zoned.ensures.instant in
    let shown : local_nanos t ≡ civil_nanos c.to_datetime.result = at_time ∙ ap (λ (r : Rules). n +ℤ nanos_of_seconds (offset_at r n)) (sym c.timezone-rules.ensures) ∙ sym c.to_datetime.ensures in
    let same : civil_nanos c.to_datetime.result ≡ civil_nanos civil = (Decides-int_eq (civil_nanos c.to_datetime.result) (civil_nanos civil)).0 (sym c.if-eq.ensures) in
    civil_shown (Named zone) civil t at place (shown ∙ same)
