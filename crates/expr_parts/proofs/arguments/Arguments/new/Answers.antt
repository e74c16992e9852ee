use Rattle.std.proofs.Common.{rules}
use Rattle.std.proofs.lemmas.List.Elements.{All-nil, All-same}
use Rattle.expr_tree.specs.KeptPatterns.{operations}
use Rattle.expr_tree.specs.declared.node.Node.{Node}
use Rattle.expr_parts.specs.Kept.{KeepPatterns}
use Rattle.expr_parts.proofs.Kept.{keeps-none}
use Rattle.expr_parts.proofs.arguments.Arguments.new.Goals as goal

-- that the patterns of a node are kept
abbrev keeps : Node → Type 0
keeps n = KeepPatterns (operations n)

pub invariant_of-result : goal.invariant_of-result
invariant_of-result c = (search rules, All-same keeps _ _ c.new.ensures.items (All-nil keeps), keeps-none)
