use Rattle.expr_tree.specs.TermOf.{term_of}
use Rattle.expr_text.proofs.Expanding.{prefix_expands}
use Rattle.expr_text.proofs.node_parts.put_prefix.Goals as goal

pub returns : goal.returns
returns c =
    prefix_expands c.args.place c.args.operator c.prefix_of-sign.result (term_of c.args.node.now) _ _ _ c.requires c.prefix_of-sign.ensures c.prefix_text.ensures c.behind.ensures c.level.ensures c.in_ok-put_three.ensures
