use Rattle.std.proofs.Common.{◌≡◌, ◌+◌, ◌++◌, map, drop}
use Rattle.expr_rules.specs.Rules.{numbered_text, rules_from}
use Rattle.expr_rules.proofs.rule_text.rules_among.Given as goal

-- the rules so far and those on the lines that are left are those on all lines
abbrev pub invariant-loop-index : goal.invariant-loop-index
invariant-loop-index l =
    map numbered_text l.rules.items ++ rules_from (l.index + 1) (map (λ line. line.now) (drop l.index l.lines)) ≡ rules_from 1 (map (λ line. line.now) l.lines)
