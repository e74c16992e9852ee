use Rattle.std.proofs.Common.{Global, String, rules}
use Rattle.std.proofs.lemmas.List.Elements.{All-nil, All-same}
use Rattle.expr_tree.specs.KeptPatterns.{line_operations}
use Rattle.expr_tree.specs.declared.node.Node.{Node}
use Rattle.expr_parts.specs.Kept.{KeepPatterns}
use Rattle.expr_parts.proofs.entries.Entries.new.Goals as goal

-- that the patterns of a line's value are kept
abbrev line_keeps : String Global × Node → Type 0
line_keeps l = KeepPatterns (line_operations l)

pub invariant_of-result : goal.invariant_of-result
invariant_of-result c = (search rules, search rules, All-same line_keeps _ _ c.new.ensures.items (All-nil line_keeps))
