use Rattle.expr_tree.proofs.KeptPatterns.{all-Index}
use Rattle.expr_parts.specs.Kept.{IsKeptBeside}
use Rattle.expr_parts.proofs.annotated_node.AnnotatedNode.index.Goals as goal

pub with_postfix-requires-clause-patterns : goal.with_postfix-requires-clause-patterns
with_postfix-requires-clause-patterns c = all-Index IsKeptBeside _ _ c.into_box-idx.ensures.patterns
