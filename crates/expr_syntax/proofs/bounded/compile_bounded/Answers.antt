use Rattle.std.proofs.lemmas.Result.{err_from_is_err_and}
use Rattle.expr_syntax.proofs.Refused.{IsAnswerBounded-err}
use Rattle.expr_syntax.proofs.bounded.compile_bounded.Goals as goal

pub returns-in_err-program-clause-only : goal.returns-in_err-program-clause-only
returns-in_err-program-clause-only c = λ t h.
    let e = c.in_err-program.field-0.0 in
    let p = err_from_is_err_and c.from_residual-in_err-program.result c.from_residual-in_err-program.ensures.1 in
    rw (p.1, p.2) (IsAnswerBounded-err t c.args.height e (c.in_err-program.ensures.only t h))
