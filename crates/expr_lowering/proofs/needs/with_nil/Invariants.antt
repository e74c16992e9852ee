use Rattle.std.proofs.Common.{◌≡◌, map, string_bytes}
use Rattle.expr_lowering.specs.HostNeeds.{with_nil}
use Rattle.expr_lowering.proofs.needs.with_nil.Given as goal

abbrev pub invariant-loop-name : goal.invariant-loop-name
invariant-loop-name l = l.filled ≡ with_nil (map string_bytes l.yielded) l.fn.context
