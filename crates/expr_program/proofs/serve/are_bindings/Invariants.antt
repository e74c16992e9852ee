use Rattle.std.proofs.Common.{◌≡◌, map, string_bytes, drop}
use Rattle.std.specs.List.{list_all}
use Rattle.expr_program.specs.Words.{is_binding}
use Rattle.expr_program.proofs.serve.are_bindings.Given as goal

-- all are bindings where the rest are
abbrev pub invariant-loop-word : goal.invariant-loop-word
invariant-loop-word l = list_all is_binding (map string_bytes l.words) ≡ list_all is_binding (map string_bytes (drop l.word-index l.words))
