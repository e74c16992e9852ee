use Rattle.std.proofs.Common.{◌≡◌, take}
use Rattle.expr_kinds.proofs.names.Known.copy.Given as goal

-- the names so far are copied
abbrev pub invariant-loop-entry : goal.invariant-loop-entry
invariant-loop-entry l = l.bound.items ≡ take l.entry-index l.self.bound.items
