use Rattle.expr_tree.proofs.KeptPatterns.{all-Index}
use Rattle.expr_parts.specs.Kept.{IsKeptBeside}
use Rattle.expr_parts.proofs.Kept.{keeps-Value, keeps_node}
use Rattle.expr_parts.proofs.annotated_node.AnnotatedNode.field.Goals as goal

pub with_postfix-requires-clause-patterns : goal.with_postfix-requires-clause-patterns
with_postfix-requires-clause-patterns c = all-Index IsKeptBeside _ _ (keeps_node c.in_ok-idx.ensures.ok (keeps-Value _))
