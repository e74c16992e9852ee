use Rattle.expr_tree.proofs.KeptPatterns.{all-Method}
use Rattle.expr_parts.specs.Kept.{IsKeptBeside}
use Rattle.expr_parts.proofs.annotated_node.AnnotatedNode.method.Goals as goal

pub with_postfix-requires-clause-patterns : goal.with_postfix-requires-clause-patterns
with_postfix-requires-clause-patterns c = all-Method IsKeptBeside _ _ c.into_nodes-args.ensures.patterns
