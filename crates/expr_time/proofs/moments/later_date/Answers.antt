use Rattle.std.proofs.Common.{◌≡◌, ℤ, rules, inl, inr, sym, ap, ◌∙◌}
use Rattle.std.specs.Prelude.{Err}
use Rattle.std.specs.Int.{w64}
use mir.Val.{SFits, of_z, to_z}
use Rattle.std.proofs.lemmas.Int.{to_z-of_z}
use Rattle.std.proofs.Math.Path.{subst}
use Rattle.expr_datetime.specs.Calendar.{Day, plain_clock}
use Rattle.jiff.specs.Words.{epoch_day}
use Rattle.expr_moment.specs.Dates.{IsReached, day_reached}
use Rattle.expr_moment.specs.Fields.{date_at}
use Rattle.expr_moment.specs.Zones.{moment_or_refusal}
use Rattle.expr_time.proofs.Given.{gives_more}
use Rattle.expr_time.proofs.moments.later_date.Goals as goal

reached_from : (d e : Day) (y z m n s t : ℤ) → d ≡ e → y ≡ z → m ≡ n → s ≡ t → IsReached d y m s → IsReached e z n t
reached_from d e y z m n s t day year month rest h =
    subst (λ (x : Day). IsReached x z n t) day (subst (λ (x : ℤ). IsReached d x n t) year (subst (λ (x : ℤ). IsReached d y x t) month (subst (λ (x : ℤ). IsReached d y m x) rest h)))

handed : (n : ℤ) → SFits w64 n → to_z w64 (of_z w64 n) ≡ n
handed n h = to_z-of_z w64 n h

pub returns-in_default : goal.returns-in_default
returns-in_default c =
    let years : SFits w64 c.args.years = search rules in
    let months : SFits w64 c.args.months = search rules in
    let days : SFits w64 c.args.days = search rules in
    λ other.
    inr (
      (λ reached. c.in_default.ensures (reached_from _ _ _ _ _ _ _ _ (sym c.date_shown.ensures.date) (sym (handed _ years)) (sym (handed _ months)) (sym (handed _ days)) reached)),
      ap Err (sym (c.refusal.ensures other)),
    )

pub returns : goal.returns
returns c =
    let years : SFits w64 c.args.years = search rules in
    let months : SFits w64 c.args.months = search rules in
    let days : SFits w64 c.args.days = search rules in
    let dt = c.from_parts-civil.result in
    let day = c.date_shown.ensures.date in
    let reached : IsReached (date_at c.args.moment.now) c.args.years c.args.months c.args.days =
    reached_from _ _ _ _ _ _ _ _ day (handed _ years) (handed _ months) (handed _ days) c.in-Some.ensures.1 in
    let number : epoch_day dt.date ≡ day_reached (date_at c.args.moment.now) c.args.years c.args.months c.args.days =
    ap epoch_day c.from_parts-civil.ensures.date ∙ c.in-Some.ensures.0 ∙ (λ i. day_reached (day i) (handed _ years i) (handed _ months i) (handed _ days i)) in
    gives_more c.moment_or_refusal.result
    (λ a e. inl (dt, reached, number, ap plain_clock c.from_parts-civil.ensures.time ∙ c.time_shown.ensures.time, sym (ap moment_or_refusal c.in_ok-found.ensures.ok) ∙ e))
    c.moment_or_refusal.ensures
