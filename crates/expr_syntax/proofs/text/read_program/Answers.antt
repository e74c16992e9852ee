use Rattle.std.proofs.Common.{Err}
use Rattle.expr_error.specs.declared.error.Error.TheVariants.{PestError}
use Rattle.expr_syntax.proofs.Compiled.{placed_boundary, refusal_boundary, IsReadFor-literal}
use Rattle.expr_syntax.proofs.text.read_program.Goals as goal

pub returns-in-Err-Syntax-clause-answer : goal.returns-in-Err-Syntax-clause-answer
returns-in-Err-Syntax-clause-answer c = rw c.in-Err-Syntax.field-0-is at c.in-Err-Syntax.ensures.answer

pub returns-in-Err-Syntax-clause-only : goal.returns-in-Err-Syntax-clause-only
returns-in-Err-Syntax-clause-only c = λ t h. (rw c.in-Err-Syntax.field-0-is at c.in-Err-Syntax.ensures.only) t h

pub returns-in-Err-Syntax-clause-place : goal.returns-in-Err-Syntax-clause-place
returns-in-Err-Syntax-clause-place c = rw c.in-Err-Syntax.field-0-is at c.in-Err-Syntax.ensures.place

pub returns-in-Err-Syntax-clause-boundary : goal.returns-in-Err-Syntax-clause-boundary
returns-in-Err-Syntax-clause-boundary c =
    placed_boundary c.args.code.now (Err (PestError c.in-Err-Syntax.place)) c.utf8.code (rw c.in-Err-Syntax.field-0-is at c.in-Err-Syntax.ensures.place)

pub returns-in-Err-Literal-clause-only : goal.returns-in-Err-Literal-clause-only
returns-in-Err-Literal-clause-only c = λ t h.
    IsReadFor-literal t c.refusal.result c.refusal.ensures ((rw c.in-Err-Literal.field-0-is at c.in-Err-Literal.ensures.only) t h)

pub returns-in-Err-Literal-clause-boundary : goal.returns-in-Err-Literal-clause-boundary
returns-in-Err-Literal-clause-boundary c = refusal_boundary c.args.code.now c.refusal.result c.refusal.ensures
