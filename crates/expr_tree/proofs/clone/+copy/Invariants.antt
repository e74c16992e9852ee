use Rattle.std.proofs.Common.{◌≡◌, map, take}
use Rattle.std.specs.List.{All}
use Rattle.expr_tree.specs.KeptPatterns.{NodeKeepsNone}
use Rattle.expr_tree.specs.TermOf.{line_term, term_of}
use Rattle.expr_tree.proofs.clone.+copy.Given as goal

abbrev pub invariant-copy_nodes-loop-node : goal.invariant-copy_nodes-loop-node
invariant-copy_nodes-loop-node l = (map term_of l.copies.items ≡ map term_of (take l.node-index l.node-items)) × All NodeKeepsNone l.copies.items

abbrev pub invariant-copy_lines-loop-name : goal.invariant-copy_lines-loop-name
invariant-copy_lines-loop-name l = (map line_term l.copies.items ≡ map line_term (take l.name-index l.name-items)) × All (λ c. NodeKeepsNone c.1) l.copies.items
