use Rattle.expr_tree.proofs.KeptPatterns.{all-Default}
use Rattle.expr_parts.specs.Kept.{IsKeptBeside}
use Rattle.expr_parts.proofs.annotated_node.AnnotatedNode.coalesce.Goals as goal

pub with_postfix-requires-clause-patterns : goal.with_postfix-requires-clause-patterns
with_postfix-requires-clause-patterns c = all-Default IsKeptBeside _ c.into_box-other.ensures.patterns
