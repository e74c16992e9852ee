use Rattle.expr_tree.proofs.KeptPatterns.{all-Ternary}
use Rattle.expr_parts.specs.Kept.{IsKeptBeside}
use Rattle.expr_parts.proofs.annotated_node.AnnotatedNode.ternary.Goals as goal

pub with_postfix-requires-clause-patterns : goal.with_postfix-requires-clause-patterns
with_postfix-requires-clause-patterns c = all-Ternary IsKeptBeside _ _ c.into_box-left.ensures.patterns c.into_box-right.ensures.patterns
