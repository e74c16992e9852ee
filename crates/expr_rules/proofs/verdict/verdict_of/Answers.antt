use Rattle.std.proofs.Common.{Ok, Err, sym, ap, subst}
use Rattle.expr_limits.specs.declared.outcome.Outcome.{Outcome}
use Rattle.expr_syntax.specs.Texts.{IsPlaced}
use Rattle.expr_tree.specs.declared.node.Program.{Program}
use Rattle.expr_rules.specs.Verdicts.{IsCompiledIn, IsFaultOf}
use Rattle.expr_rules.proofs.Judging.{large_literal, passes_limit, wrong_at}
use Rattle.expr_rules.proofs.verdict.verdict_of.Goals as goal

pub returns-in-Ok : goal.returns-in-Ok
returns-in-Ok c =
    let text = c.args.rule.text.now in
    let first = c.args.rule.line in
    let stopped = subst (λ o. IsCompiledIn c.args.limits text (Ok o)) c.in-Stopped.is c.in-Ok.ensures.answer in
    subst (IsFaultOf c.args.limits text first) (sym c.limit_fault.ensures) (passes_limit c.args.limits text first c.in-Stopped.limit stopped)

pub syntax_fault-requires : goal.syntax_fault-requires
syntax_fault-requires c = c.in-Err.ensures.boundary c.in-PestError.place (ap (λ e. Err e) c.in-PestError.is)

pub returns-in-PestError : goal.returns-in-PestError
returns-in-PestError c =
    let text = c.args.rule.text.now in
    let wrong = subst (λ e. IsCompiledIn c.args.limits text (Err e)) c.in-PestError.is c.in-Err.ensures.answer in
    let placed = subst (λ e. IsPlaced {A = Outcome Program} text (Err e)) c.in-PestError.is c.in-Err.ensures.place in
    wrong_at c.args.limits text c.args.rule.line c.in-PestError.place c.syntax_fault.result wrong placed.1 c.syntax_fault.ensures

pub returns-in-ParseError : goal.returns-in-ParseError
returns-in-ParseError c =
    let text = c.args.rule.text.now in
    large_literal c.args.limits text c.in-ParseError._message (subst (λ e. IsCompiledIn c.args.limits text (Err e)) c.in-ParseError.is c.in-Err.ensures.answer)
