use Rattle.std.proofs.lemmas.Int.{to_z-of_z}
use Rattle.std.specs.Int.{w64, w128}
use mir.Val.{SFits}
use Rattle.std.proofs.Common.{rules, ℤ, to_z, of_z, ◌≡◌, ap, ◌∙◌, sym, pos, ◌-◌, ◌+ℤ◌, MatchOption, Some, None}
use Rattle.std.specs.Prelude.{Option}
use Rattle.std.proofs.Math.Path.{subst}
use Rattle.expr_datetime.specs.Calendar.{plain_day}
use Rattle.jiff.specs.Words.{epoch_day, IsEpochDay, IsYear}
use Rattle.expr_moment.specs.Dates.{day_reached, first_day, months_on, year_at}
use Rattle.expr_moment.proofs.dates.date_after.Goals as goal

weaker : {X : Type 0} (o : Option X) {A B : Type 0} {P Q : X → Type 0} → (A → B) → ((x : X) → P x → Q x) → MatchOption o A P → MatchOption o B Q
weaker None f g h = f h
weaker (Some x) f g h = g x h

-- a number that is handed on
same_128 : (z : ℤ) → SFits w128 z → to_z w128 (of_z w128 z) ≡ z
same_128 z h = to_z-of_z w128 z h

same_64 : (z : ℤ) → SFits w64 z → to_z w64 (of_z w64 z) ≡ z
same_64 z h = to_z-of_z w64 z h

pub returns-in-Some : goal.returns-in-Some
returns-in-Some c =
    let date = c.args.date in
    let m = c.month_after-months.result in
    let d = c.days_on-days.result in
    let m_fits : SFits w128 m = search rules in
    let d_fits : SFits w128 d = search rules in
    let years_fit : SFits w64 c.args.years = search rules in
    let months_fit : SFits w64 c.args.months = search rules in
    let days_fit : SFits w64 c.args.days = search rules in
    let months : m ≡ months_on (plain_day date) c.args.years c.args.months = c.month_after-months.ensures ∙ (λ i. months_on (plain_day date) (same_64 _ years_fit i) (same_64 _ months_fit i)) in
    let days : d ≡ pos (date.day - 1) +ℤ c.args.days = c.days_on-days.ensures ∙ (λ i. pos (date.day - 1) +ℤ same_64 _ days_fit i) in
    let handed : to_z w128 (of_z w128 m) ≡ months_on (plain_day date) c.args.years c.args.months = same_128 m m_fits ∙ months in
    let first : epoch_day c.in-Some.first ≡ first_day (months_on (plain_day date) c.args.years c.args.months) = c.in-Some.ensures.0 ∙ ap first_day handed in
    let year : IsYear (year_at (months_on (plain_day date) c.args.years c.args.months)) = subst (λ (z : ℤ). IsYear (year_at z)) handed c.in-Some.ensures.1 in
    let same : epoch_day c.in-Some.first +ℤ to_z w128 (of_z w128 d) ≡ day_reached (plain_day date) c.args.years c.args.months c.args.days = λ i. first i +ℤ (same_128 d d_fits ∙ days) i in
    weaker c.day_after.result (λ none reached. none (subst IsEpochDay (sym same) reached.1)) (λ d e. (e.0 ∙ same, (year, subst IsEpochDay same e.1))) c.day_after.ensures
