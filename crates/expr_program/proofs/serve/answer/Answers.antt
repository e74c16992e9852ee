use Rattle.std.proofs.Common.{map, string_bytes, Ok}
use Rattle.expr_program.specs.Served.{MayAnswerUnder, MayServe}
use Rattle.expr_value.proofs.Answered.{Returns-under}
use Rattle.expr_program.proofs.serve.answer.Goals as goal

pub returns : goal.returns
returns c =
    let context = c.in_ok-context.context in
    let code = c.args.code.now in
    Returns-under c.value_under.result (MayAnswerUnder context code) (MayServe code (map string_bytes c.args.bindings.now)) (
    λ a p. (Ok context, c.in_ok-context.ensures, p)
    ) c.value_under.ensures
