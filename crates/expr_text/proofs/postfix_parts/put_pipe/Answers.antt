use Rattle.std.proofs.Common.{◌≡◌, true}
use Rattle.expr_tree.specs.TermOf.{term_of}
use Rattle.expr_text.specs.Texts.{is_call_term}
use Rattle.expr_text.proofs.Expanding.{pipe_expands}
use Rattle.expr_text.proofs.postfix_parts.put_pipe.Goals as goal

pub returns : goal.returns
returns c =
    let called : is_call_term (term_of c.args.call.now) ≡ true = cc in
    pipe_expands c.args.place (term_of c.args.call.now) (term_of c.args.operand.now) _ _ called c.requires c.ahead.ensures c.apart.ensures c.in_ok-put_three.ensures
