use Rattle.std.proofs.Common.{ℕ, List, None, subst, sym}
use Rattle.expr_limits.specs.Counting.{gives}
use Rattle.expr_limits.specs.Outcomes.{ReturnsOutcome}
use Rattle.expr_limits.specs.Rooms.{Room}
use Rattle.expr_meaning.specs.World.{World, world_of}
use Rattle.expr_records.specs.RecordCode.{IsCodeOf, RecordCode}
use Rattle.expr_records.specs.RecordRuns.{RunEnds}
use Rattle.expr_records.proofs.RunEnding.{ends_within, gives_unlimited, refusal_passed, refuses_unlimited}
use Rattle.expr_records.proofs.query.execute_by.Goals as goal

pub returns-in-Some-clause-ends : goal.returns-in-Some-clause-ends
returns-in-Some-clause-ends g c =
    let code : RecordCode = c.args.machine.now.code.now in
    let world : World = world_of (g.H.Functions.host c.args.host.now) (g.P.ContextProvider.context c.args.provider) in
    let r = c.execute_limited_among.result in
    subst (λ limits. (text : List ℕ) → IsCodeOf limits text code → ReturnsOutcome r (RunEnds limits text code world)) (sym c.in-Some.is) (
    λ text is. ends_within text code world c.in-Some.limits is r c.execute_limited_among.ensures.code
    )

pub returns-in_ok-execute_among-in-None-clause-ends : goal.returns-in_ok-execute_among-in-None-clause-ends
returns-in_ok-execute_among-in-None-clause-ends g c =
    let code : RecordCode = c.args.machine.now.code.now in
    let world : World = world_of (g.H.Functions.host c.args.host.now) (g.P.ContextProvider.context c.args.provider) in
    let v = c.in_ok-execute_among-in-None.field-0 in
    subst (λ limits. (text : List ℕ) → IsCodeOf limits text code → (left : Room) × RunEnds limits text code world (gives v left)) (sym c.in-None.is) (
    λ text is. gives_unlimited text code world v is c.in_ok-execute_among-in-None.ensures.code
    )

pub returns-in_err-execute_among-in-None-clause-ends : goal.returns-in_err-execute_among-in-None-clause-ends
returns-in_err-execute_among-in-None-clause-ends g c =
    let code : RecordCode = c.args.machine.now.code.now in
    let world : World = world_of (g.H.Functions.host c.args.host.now) (g.P.ContextProvider.context c.args.provider) in
    let e = c.in_err-execute_among-in-None.field-0.0 in
    let r = c.from_residual.result in
    subst (λ limits. (text : List ℕ) → IsCodeOf limits text code → ReturnsOutcome r (RunEnds limits text code world)) (sym c.in-None.is) (
    λ text is. refusal_passed r e (RunEnds None text code world) c.from_residual.ensures.1 (refuses_unlimited text code world e is c.in_err-execute_among-in-None.ensures.code)
    )
