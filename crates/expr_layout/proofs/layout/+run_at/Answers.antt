use Rattle.std.proofs.Common.{◌<◌, sym, ◌∙◌, arith, Some}
use Rattle.std.proofs.lemmas.Str.Pattern.{strip_prefix_char}
use Rattle.std.specs.Prelude.{None}
use Rattle.expr_layout.proofs.Tokens.{run_end, run_more}
use Rattle.expr_layout.proofs.layout.+run_at.Goals as goal

pub returns-in-Some : goal.returns-in-Some
returns-in-Some t c =
    let small : c.args.digit < 128 = omega arith in
    let text = strip_prefix_char c.args.digit c.args.text.now (Some c.in-Some.rest) c.in-Some.ensures.cases small in
    c.run_at.ensures ∙ sym (run_more c.args.left c.args.digit c.args.count c.args.text.now c.in-Some.rest.now (omega arith) text)

pub returns-in-None : goal.returns-in-None
returns-in-None t c =
    let small : c.args.digit < 128 = omega arith in
    let text = strip_prefix_char c.args.digit c.args.text.now None c.in-None.ensures.cases small in
    sym (run_end c.args.left c.args.digit c.args.count c.args.text.now (omega arith) text)
