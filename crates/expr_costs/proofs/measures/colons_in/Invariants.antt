use Rattle.std.proofs.Common.{◌≡◌, ◌≤◌, take}
use Rattle.expr_costs.specs.Measures.{colons}
use Rattle.expr_costs.proofs.measures.colons_in.Given as goal

abbrev pub invariant-loop-byte : goal.invariant-loop-byte
invariant-loop-byte l = (l.colons ≡ colons (take l.byte-index l.bytes)) × (l.colons ≤ l.byte-index)
