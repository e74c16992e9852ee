use Rattle.std.proofs.Common.{Ok, subst, sym}
use Rattle.expr_code.specs.Codes.{IsCode}
use Rattle.expr_tree.specs.TermOf.{program_term}
use Rattle.expr_records.specs.RecordCode.{IsMadeOf, IsProgramIn}
use Rattle.expr_records.proofs.query.code_of_text.Goals as goal

pub returns-in_ok-code-in-Answered-clause-code : goal.returns-in_ok-code-in-Answered-clause-code
returns-in_ok-code-in-Answered-clause-code c =
    let limits = c.args.limits in
    let text = c.args.text.now in
    let b = program_term c.in-Answered.program in
    let made : IsProgramIn limits text b = subst (λ o. IsMadeOf limits text (λ p. IsProgramIn limits text (program_term p)) (Ok o)) c.in-Answered.is c.in_ok-program.ensures.program in
    (b, made, subst (IsCode b) (sym c.in_ok-code-in-Answered.ensures.blocks) c.in_ok-lower-in-Answered.ensures.code)
