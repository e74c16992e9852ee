use Rattle.std.proofs.Common.{rules}
use Rattle.expr_tree.specs.declared.node.Node.{the_lemmas}
use Rattle.expr_tree.proofs.KeptPatterns.{all-Array}
use Rattle.expr_parts.specs.Kept.{IsKeptBeside}
use Rattle.expr_parts.proofs.arguments.Arguments.array.Goals as goal

pub made-requires-clause-hash : goal.made-requires-clause-hash
made-requires-clause-hash c = search (rules, the_lemmas)

pub made-requires-clause-patterns : goal.made-requires-clause-patterns
made-requires-clause-patterns c = all-Array IsKeptBeside _ c.into_nodes.ensures.patterns
