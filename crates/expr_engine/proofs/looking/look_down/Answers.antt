use Rattle.std.proofs.Common.{rules, subst, w64}
use Rattle.std.proofs.lemmas.Int.{to_z-of_z}
use mir.Val.{SFits}
use Rattle.expr_exchange.specs.Cursor.{at_number, item_at, part_of}
use Rattle.expr_exchange.specs.Refusals.{NotThere}
use Rattle.expr_exchange.proofs.Refused.{passed_so}
use Rattle.expr_engine.proofs.looking.look_down.Goals as goal

pub returns-in_err-go_down-clause-why : goal.returns-in_err-go_down-clause-why
returns-in_err-go_down-clause-why c =
    let number = c.args.call.now.number in
    let part = part_of c.args.engine.now.answer in
    let e = c.in_err-go_down.field-0.0 in
    let fits : SFits w64 number = search rules in
    passed_so c.from_residual.result e (NotThere (at_number number (item_at part))) c.from_residual.ensures.1
    (subst (λ n. NotThere (at_number n (item_at part)) e) (to_z-of_z w64 number fits) c.in_err-go_down.ensures.refused)
