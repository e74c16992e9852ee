use Rattle.std.proofs.Common.{◌≡◌, true, map}
use Rattle.expr_tree.specs.TermOf.{term_of, terms_of, program_term}
use Rattle.expr_text.specs.Texts.{is_free_word}
use Rattle.expr_text.proofs.Expanding.{predicate_expands}
use Rattle.expr_text.proofs.node_parts.put_predicate_call.Goals as goal

pub returns : goal.returns
returns c =
    let word : is_free_word c.args.name.now ≡ true = cc in
    predicate_expands c.args.place c.args.name.now (terms_of (map term_of c.args.arguments.now)) (program_term c.args.program.now) _ _ word c.of_all.ensures c.brace_after.ensures c.in_ok-put_three.ensures c.in_ok-put_three-2.ensures
