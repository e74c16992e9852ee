use Rattle.expr_tree.proofs.KeptPatterns.{all-Slice}
use Rattle.expr_parts.specs.Kept.{IsKeptBeside}
use Rattle.expr_parts.proofs.annotated_node.AnnotatedNode.slice.Goals as goal

pub with_postfix-requires-clause-patterns : goal.with_postfix-requires-clause-patterns
with_postfix-requires-clause-patterns c = all-Slice IsKeptBeside _ _ c.box_of-start.ensures.patterns c.box_of-end.ensures.patterns
