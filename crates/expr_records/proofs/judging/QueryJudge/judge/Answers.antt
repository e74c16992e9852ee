use Rattle.std.proofs.Common.{◌≡◌, false, ap, subst, sym, ◌∙◌, inl, inr, refl}
use Rattle.std.specs.List.{list_all}
use Rattle.expr_records.specs.RecordRuns.{RecordEnds}
use Rattle.expr_records.specs.Judged.{ComesOfLine}
use Rattle.expr_records.specs.Lines.{is_blank_line, is_space, line_text}
use Rattle.expr_records.specs.Records.{IsRecord, MayRefuseText}
use Rattle.expr_records.specs.declared.outcome.LineOutcome.TheVariants.{Refused}
use Rattle.expr_records.proofs.judging.QueryJudge.judge.Goals as goal

pub returns-in-Ok-clause-judged : goal.returns-in-Ok-clause-judged
returns-in-Ok-clause-judged g c =
    let query = c.args.self.now in
    let full : is_blank_line c.args.line.now ≡ false = ap (list_all is_space) (sym c.text_of-text.ensures) ∙ (sym c.is_blank.ensures ∙ c.if-is_blank.false) in
    λ text is.
    let come = c.record_outcome.ensures.comes text is in
    let held = subst (λ t. IsRecord t c.in-Ok.members) c.text_of-text.ensures c.in-Ok.ensures.ok in
    subst (λ b. ComesOfLine b query.purpose (RecordEnds query.limits (g.H.Functions.host query.host.now) query.names.now text query.machine.code.now) (line_text c.args.line.now) c.record_outcome.result) (sym full) (inl (c.in-Ok.members, held, come))

pub returns-in-Err-clause-judged : goal.returns-in-Err-clause-judged
returns-in-Err-clause-judged g c =
    let query = c.args.self.now in
    let full : is_blank_line c.args.line.now ≡ false = ap (list_all is_space) (sym c.text_of-text.ensures) ∙ (sym c.is_blank.ensures ∙ c.if-is_blank.false) in
    λ text is.
    let why = subst (λ t. MayRefuseText t c.in-Err.refusal) c.text_of-text.ensures c.in-Err.ensures.err in
    subst (λ b. ComesOfLine b query.purpose (RecordEnds query.limits (g.H.Functions.host query.host.now) query.names.now text query.machine.code.now) (line_text c.args.line.now) (Refused c.in-Err.refusal)) (sym full) (inr (c.in-Err.refusal, refl, why))
