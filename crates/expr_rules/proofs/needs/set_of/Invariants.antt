use Rattle.std.proofs.Common.{map, take}
use Rattle.expr_rules.specs.Tasks.{HasSame}
use Rattle.expr_rules.proofs.needs.set_of.Given as goal

abbrev pub invariant-loop-name : goal.invariant-loop-name
invariant-loop-name l = HasSame l.set.keys (map (λ name. name.now) (take l.name-index l.names))
