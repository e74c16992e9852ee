use Rattle.std.proofs.Common.{◌≡◌}
use Rattle.expr_schema.proofs.reader.word_length.Given as goal

abbrev pub invariant-loop-byte : goal.invariant-loop-byte
invariant-loop-byte l = l.count ≡ l.byte-index
