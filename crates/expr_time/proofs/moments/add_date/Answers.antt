use Rattle.std.proofs.Common.{rules, ℤ}
use Rattle.std.specs.Prelude.{Option}
use Rattle.std.specs.Int.{w64}
use mir.Val.{SFits, of_z, to_z}
use Rattle.std.proofs.lemmas.Int.{to_z-of_z}
use Rattle.std.proofs.Math.Path.{subst}
use Rattle.expr_value.specs.Answers.{Returns}
use Rattle.expr_moment.specs.Dates.{AddsDate}
use Rattle.expr_time.specs.Moments.{AddsDates}
use Rattle.expr_time.proofs.moments.add_date.Goals as goal

pub returns : goal.returns
returns c =
    let m = c.args.moment.now in
    let r = c.later_date.result in
    let years = c.in-Some.years in
    let months = c.in-Some.months in
    let days = c.in-Some.days in
    let years_fit : SFits w64 years = search rules in
    let months_fit : SFits w64 months = search rules in
    let days_fit : SFits w64 days = search rules in
    let one : Returns r (AddsDate m years (to_z w64 (of_z w64 months)) (to_z w64 (of_z w64 days))) =
    subst (λ (n : ℤ). Returns r (AddsDate m n (to_z w64 (of_z w64 months)) (to_z w64 (of_z w64 days)))) (to_z-of_z w64 years years_fit) c.later_date.ensures in
    let two : Returns r (AddsDate m years months (to_z w64 (of_z w64 days))) = subst (λ (n : ℤ). Returns r (AddsDate m years n (to_z w64 (of_z w64 days)))) (to_z-of_z w64 months months_fit) one in
    let three : Returns r (AddsDate m years months days) = subst (λ (n : ℤ). Returns r (AddsDate m years months n)) (to_z-of_z w64 days days_fit) two in
    subst (λ (o : Option (ℤ × ℤ × ℤ)). Returns r (AddsDates m o)) c.in-Some.ensures three
