use Rattle.std.proofs.Common.{◌≡◌, false, bytes_eq, take}
use Rattle.std.specs.Prelude.{string_bytes}
use Rattle.std.specs.List.{list_any}
use Rattle.expr_frames.proofs.asking.Asking.has.Given as goal

abbrev pub invariant-loop-it : goal.invariant-loop-it
invariant-loop-it g l = list_any (λ name. bytes_eq (string_bytes name) l.name) (take l.it-index l.self.names.now) ≡ false
