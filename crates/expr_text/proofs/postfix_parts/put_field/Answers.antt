use Rattle.std.proofs.Common.{◌≡◌, false}
use Rattle.expr_tree.specs.TermOf.{term_of}
use Rattle.expr_text.proofs.Expanding.{field_expands}
use Rattle.expr_text.proofs.postfix_parts.put_field.Goals as goal

pub returns : goal.returns
returns c =
    let free : c.args.place.is_hashless ≡ false = cc in
    field_expands c.args.place c.args.word.now (term_of c.args.operand.now) c.args.is_optional c.requires.word c.requires.field free c.in_ok-put_three.ensures
