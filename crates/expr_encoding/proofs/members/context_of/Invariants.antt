use Rattle.std.proofs.Common.{◌≡◌, ◌++◌}
use Rattle.expr_encoding.specs.Tokens.{lent_pairs}
use Rattle.expr_encoding.proofs.members.context_of.Given as goal

abbrev pub invariant-loop-name : goal.invariant-loop-name
invariant-loop-name l = l.context ++ lent_pairs l.name-iterator ≡ lent_pairs l.lent.entries
