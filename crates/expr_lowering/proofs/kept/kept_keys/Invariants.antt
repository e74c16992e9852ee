use Rattle.std.proofs.Common.{◌≡◌, map, take, string_bytes}
use Rattle.expr_lowering.specs.Owned.{own_text}
use Rattle.expr_lowering.proofs.kept.kept_keys.Given as goal

abbrev pub invariant-loop-key : goal.invariant-loop-key
invariant-loop-key g l = map own_text l.kept.items ≡ map (λ n. string_bytes (g.N.Pointer.held n)) (take l.key-index l.key-items)
