use Rattle.expr_tree.proofs.KeptPatterns.{all-Pipe}
use Rattle.expr_parts.specs.Kept.{IsKeptBeside}
use Rattle.expr_parts.proofs.annotated_node.AnnotatedNode.pipe.Goals as goal

pub with_postfix-requires-clause-patterns : goal.with_postfix-requires-clause-patterns
with_postfix-requires-clause-patterns c = all-Pipe IsKeptBeside _ c.into_box-call.ensures.patterns
