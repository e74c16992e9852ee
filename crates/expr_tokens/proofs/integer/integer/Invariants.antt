use Rattle.std.proofs.Common.{◌≡◌, drop, fold}
use Rattle.expr_tokens.specs.Tokens.{with_digit, written_number}
use Rattle.expr_tokens.proofs.integer.integer.Given as goal

abbrev pub invariant-loop-byte : goal.invariant-loop-byte
invariant-loop-byte l = fold (with_digit l.radix) l.value (drop l.byte-index l.digits) ≡ written_number l.radix l.digits
