use Rattle.std.proofs.Common.{Global, String, arith}
use Rattle.std.proofs.lemmas.Grind.{common_steps}
use Rattle.std.proofs.lemmas.List.Elements.{All-push, All-same}
use Rattle.expr_tree.specs.KeptPatterns.{line_operations}
use Rattle.expr_tree.specs.declared.node.Node.{Node}
use Rattle.expr_parts.specs.Kept.{KeepPatterns}
use Rattle.expr_parts.proofs.entries.Entries.push.Goals as goal

-- that the patterns of a line's value are kept
abbrev line_keeps : String Global × Node → Type 0
line_keeps l = KeepPatterns (line_operations l)

pub invariant_of-self-2 : goal.invariant_of-self-2
invariant_of-self-2 c = (
  grind (arith, common_steps),
  grind (arith, common_steps),
  All-same line_keeps _ _ c.in_ok-push.ensures.items (All-push line_keeps c.self.inside.pairs.items _ c.self.invariant.2 c.into_node.ensures.patterns),
)
