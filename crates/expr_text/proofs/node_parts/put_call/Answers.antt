use Rattle.std.proofs.Common.{◌≡◌, true, map}
use Rattle.expr_tree.specs.TermOf.{term_of, terms_of}
use Rattle.expr_text.specs.Texts.{is_free_word}
use Rattle.expr_text.proofs.Expanding.{call_expands}
use Rattle.expr_text.proofs.node_parts.put_call.Goals as goal

pub returns : goal.returns
returns c =
    let word : is_free_word c.args.name.now ≡ true = cc in
    call_expands c.args.place c.args.name.now (terms_of (map term_of c.args.arguments.now)) _ word c.of_call.ensures c.in_ok-put_three.ensures c.in_ok-put.ensures
