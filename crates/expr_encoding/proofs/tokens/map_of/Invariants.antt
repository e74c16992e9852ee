use Rattle.std.proofs.Common.{◌≡◌, ◌++◌}
use Rattle.expr_encoding.specs.Tokens.{lent_pairs}
use Rattle.expr_encoding.proofs.tokens.map_of.Given as goal

abbrev pub invariant-loop-name : goal.invariant-loop-name
invariant-loop-name l = l.pairs ++ lent_pairs l.name-iterator ≡ lent_pairs l.fn.members.entries
