use Rattle.std.proofs.Common.{◌≡◌, true, map}
use Rattle.expr_tree.specs.TermOf.{term_of, terms_of}
use Rattle.expr_tokens.specs.Tokens.{is_word}
use Rattle.expr_text.proofs.Expanding.{method_expands}
use Rattle.expr_text.proofs.postfix_parts.put_method.Goals as goal

pub returns : goal.returns
returns c =
    let word : is_word c.args.name.now ≡ true = cc in
    method_expands c.args.place c.args.name.now (terms_of (map term_of c.args.arguments.now)) (term_of c.args.operand.now) _ _ word c.ahead.ensures c.of_all.ensures c.in_ok-put_three.ensures c.in_ok-put_three-2.ensures
