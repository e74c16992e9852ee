use Rattle.std.proofs.Common.{map, take}
use Rattle.expr_rules.specs.Checked.{AreChecked}
use Rattle.expr_rules.specs.Rules.{numbered_text}
use Rattle.expr_rules.proofs.checking.check_rules.Given as goal

abbrev pub invariant-loop-rule : goal.invariant-loop-rule
invariant-loop-rule l = AreChecked l.manner.limits l.manner.wishes (map numbered_text (take l.rule-index l.rules)) l.checked.items
