use Rattle.std.proofs.Common.{Ok, inl, inr, refl, subst, sym}
use Rattle.expr_limits.specs.Counting.{stops}
use Rattle.expr_limits.specs.Outcomes.{ReturnsOutcome}
use Rattle.expr_meaning.specs.Host.{Host}
use Rattle.expr_records.specs.Judged.{IsOutcomeOf}
use Rattle.expr_records.specs.RecordRuns.{RecordEnds}
use Rattle.expr_records.proofs.judging.record_outcome.Goals as goal

pub returns-in-Ok-Answered-clause-comes : goal.returns-in-Ok-Answered-clause-comes
returns-in-Ok-Answered-clause-comes g c =
    let query = c.args.query.now in
    let host : Host = g.H.Functions.host query.host.now in
    let v = c.in-Ok-Answered.answer in
    let outcome = subst (λ q. IsOutcomeOf q.purpose v c.outcome_of.result) c.in-Ok-Answered.ensures.same c.outcome_of.ensures in
    λ text is.
    let ends = subst (λ o. ReturnsOutcome (Ok o) (RecordEnds query.limits host query.names.now text query.machine.code.now c.args.members)) c.in-Ok-Answered.field-0-is (c.in-Ok-Answered.ensures.ends text is) in
    inl (v, ends.0, ends.1, outcome)

pub returns-in-Ok-Stopped-clause-comes : goal.returns-in-Ok-Stopped-clause-comes
returns-in-Ok-Stopped-clause-comes g c =
    let query = c.args.query.now in
    let host : Host = g.H.Functions.host query.host.now in
    λ text is.
    let ends = subst (λ o. ReturnsOutcome (Ok o) (RecordEnds query.limits host query.names.now text query.machine.code.now c.args.members)) c.in-Ok-Stopped.field-0-is (c.in-Ok-Stopped.ensures.ends text is) in
    inr (inr (c.of.result, refl, subst (λ limit. RecordEnds query.limits host query.names.now text query.machine.code.now c.args.members (stops limit)) (sym c.of.ensures) ends))

pub returns-in-Err-clause-comes : goal.returns-in-Err-clause-comes
returns-in-Err-clause-comes g c = λ text is. inr (inl (c.in-Err.error, refl, c.in-Err.ensures.ends text is))
