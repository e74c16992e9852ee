use Rattle.std.proofs.Common.{◌≡◌, ◌∙◌, true, false, Ok, refl, sym, subst}
use Rattle.expr_acts.proofs.Uncounted.{kept_free}
use Rattle.expr_limits.specs.Counting.{KeepsAll}
use Rattle.expr_limits.specs.MeterView.{MeterView}
use Rattle.expr_limits.specs.Rooms.{rooms}
use Rattle.expr_machine.proofs.Beginnings.{started_by}
use Rattle.expr_machine.proofs.Keepings.{added_first, first_kept, none_kept, nothing_first, one_kept}
use Rattle.expr_machine.specs.Firsts.{firsts}
use Rattle.expr_meaning.specs.Host.{Host}
use Rattle.expr_predicates.specs.Calls.{fold_of, fold_of_call}
use Rattle.expr_machine.proofs.calls.keep_first.Goals as goal
use Rattle.expr_machine.proofs.calls.keep_first.Goals.{in-Some-first_retained+in_ok-keep, in_default-first_retained, then-not-counts-via-else-not-counts+then-added, then-not-counts-via-then-not-counts}

pub returns-then-not-counts-clause-first : goal.returns-then-not-counts-clause-first
returns-then-not-counts-clause-first g c =
    let host : Host = g.H.Functions.host c.args._host.now in
    let was : MeterView = g.M.Meter.metered c.args.meter.now in
    elim c.then-not-counts.branch [
      | then-not-counts-via-then-not-counts w ↦ (refl, kept_free (firsts host c.args.name.now c.args.args.now) was.room (sym c.counts.ensures ∙ w.if-not-counts.true))
      | then-not-counts-via-else-not-counts+then-added w ↦ (refl, nothing_first host c.args.name.now c.args.args.now (added_first host c.args.name.now c.args.args.now (sym c.requires ∙ w.if-added.true)) was.room)
    ]

pub returns-clause-first : goal.returns-clause-first
returns-clause-first g c =
    let host : Host = g.H.Functions.host c.args._host.now in
    let was : MeterView = g.M.Meter.metered c.args.meter.now in
    let call = c.in-Some.call in
    let none : host.is_added c.args.name.now ≡ false = sym c.requires ∙ c.if-added.false in
    elim c.match-first_retained.branch [
      | in-Some-first_retained+in_ok-keep w ↦
          subst (λ m. ((g.M.Meter.metered m).stopped ≡ was.stopped) × KeepsAll rooms (firsts host c.args.name.now c.args.args.now) was.room (Ok (g.M.Meter.metered m).room)) (sym w.meter-is) (
          first_kept host c.args.name.now c.args.args.now call none (sym c.from_name.ensures ∙ c.in-Some.is) was (g.M.Meter.metered w.keep.new.self) (
          one_kept (fold_of_call call c.args.args.now true) w.in-Some-first_retained.value.now w.in-Some-first_retained.ensures.0 w.in-Some-first_retained.ensures.1 w.in-Some-first_retained.ensures.2 g.M.Meter.limit (Ok w.in_ok-keep.field-0) was (g.M.Meter.metered w.keep.new.self) w.in_ok-keep.ensures
          ))
      | in_default-first_retained w ↦
          subst (λ m. ((g.M.Meter.metered m).stopped ≡ was.stopped) × KeepsAll rooms (firsts host c.args.name.now c.args.args.now) was.room (Ok (g.M.Meter.metered m).room)) (sym w.meter-is) (
          first_kept host c.args.name.now c.args.args.now call none (sym c.from_name.ensures ∙ c.in-Some.is) was was (refl, none_kept (fold_of_call call c.args.args.now true) w.in_default-first_retained.ensures was.room)
          )
    ]

pub returns-clause-each : goal.returns-clause-each
returns-clause-each g c = λ counted not_added call s named begins.
    let same : c.in-Some.call ≡ call = cc (sym c.in-Some.is ∙ c.from_name.ensures ∙ named) in
    let p = started_by call c.args.args.now s begins in
    c.from_higher_order.ensures p.0 p.1 s (subst (λ b. fold_of b p.0 p.1 ≡ Ok s) (sym same) p.2)
