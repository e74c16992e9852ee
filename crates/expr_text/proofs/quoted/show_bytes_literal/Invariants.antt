use Rattle.std.proofs.Common.{◌++◌, map, take, codes}
use Rattle.std.specs.Fmt.{HasWritten, IsPlainFormatter}
use Rattle.std.specs.List.{flat_map}
use Rattle.expr_text.specs.Layout.{byte_part_of}
use Rattle.expr_tokens.specs.Tokens.{byte_part}
use Rattle.expr_text.proofs.quoted.show_bytes_literal.Given as goal

abbrev pub invariant-loop-byte : goal.invariant-loop-byte
invariant-loop-byte g l =
    IsPlainFormatter l.fn.f → HasWritten g.W.Write.write_str_gives l.fn.f (codes "b\"" ++ flat_map byte_part (map byte_part_of (take l.byte-index l.bytes))) l.f
