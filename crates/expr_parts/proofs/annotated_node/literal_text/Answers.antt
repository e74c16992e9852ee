use Rattle.std.proofs.Common.{sym, ap, ◌∙◌}
use Rattle.expr_tree.specs.KeptPatterns.{node_patterns}
use Rattle.expr_tree.proofs.Texts.{text-Value, text-none}
use Rattle.expr_parts.proofs.annotated_node.literal_text.Goals as goal

pub returns-in-Value : goal.returns-in-Value
returns-in-Value c = c.as_string.ensures ∙ sym (ap (λ n. (node_patterns n).text) c.in-Value.is ∙ text-Value c.in-Value.value)

pub returns-in_default : goal.returns-in_default
returns-in_default c = sym (text-none c.args.node.now c.in_default.not-Value)
