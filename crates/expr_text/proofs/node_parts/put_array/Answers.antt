use Rattle.std.proofs.Common.{map}
use Rattle.expr_tree.specs.TermOf.{term_of, terms_of}
use Rattle.expr_text.proofs.Expanding.{list_expands}
use Rattle.expr_text.proofs.node_parts.put_array.Goals as goal

pub returns : goal.returns
returns c =
    list_expands c.args.place (terms_of (map term_of c.args.items.now)) _ c.of_all.ensures c.in_ok-put_three.ensures
