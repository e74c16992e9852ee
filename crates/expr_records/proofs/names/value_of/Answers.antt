use Rattle.std.proofs.Common.{Ok, [], inr, subst, sym}
use Rattle.expr_context.specs.Contexts.{context_of}
use Rattle.expr_limits.specs.Outcomes.{ReturnsOutcome}
use Rattle.expr_meaning.specs.Host.{Host}
use Rattle.expr_meaning.specs.World.{world_of}
use Rattle.expr_records.specs.RecordCode.{IsCodeOf, IsMadeOf, RecordCode}
use Rattle.expr_records.specs.RecordRuns.{NameEnds, RunEnds}
use Rattle.expr_records.proofs.RunEnding.{ends_under}
use Rattle.expr_records.proofs.names.value_of.Goals as goal

pub returns-in-Answered : goal.returns-in-Answered
returns-in-Answered g c =
    let host : Host = g.H.Functions.host c.args.host.now in
    let limits = c.args.limits in
    let text = c.args.code.now in
    let code : RecordCode = c.new-machine.result.code.now in
    let made = subst (λ o. IsMadeOf limits text (IsCodeOf limits text) (Ok o)) c.in-Answered.is c.in_ok-code.ensures.code in
    let is : IsCodeOf limits text code = subst (IsCodeOf limits text) (sym c.new-machine.ensures.code) made in
    let ends = subst (λ pairs. ReturnsOutcome c.execute_by.result (RunEnds limits text code (world_of host (context_of pairs)))) c.new.ensures (c.execute_by.ensures.ends text is) in
    ends_under c.execute_by.result (RunEnds limits text code (world_of host (context_of []))) (NameEnds limits host text) (λ end p. inr (code, is, p)) ends
