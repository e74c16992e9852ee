use Rattle.std.proofs.Common.{IfOk, sym, subst}
use Rattle.expr_tree.specs.TermOf.{term_of}
use Rattle.expr_tree.specs.Term.{postfix, index}
use Rattle.expr_text.specs.Parts.{NodeExpands}
use Rattle.expr_text.proofs.Same.{member_is, member_is_word}
use Rattle.expr_text.proofs.postfix_parts.put_index.Goals as goal

pub returns-in-Some : goal.returns-in-Some
returns-in-Some c =
    subst (λ k. IfOk c.put_member.result (λ done. NodeExpands done c.args.pending.now.items c.put_member.new.pending.items (postfix (index k c.args.is_optional) (term_of c.args.operand.now)) c.args.place))
    (sym (member_is (term_of c.args.key.now) c.in-Some.word.now (sym c.in-Some.ensures))) c.put_member.ensures

pub put_member-requires : goal.put_member-requires
put_member-requires c =
    member_is_word (term_of c.args.key.now) c.in-Some.word.now (sym c.in-Some.ensures)
