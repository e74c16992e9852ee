use Rattle.std.proofs.Common.{◌≡◌, ◌-◌, ◌≤◌, length}
use Rattle.regex.specs.Patterns.{find_str}
use Rattle.regex_meta.specs.Programs.{pattern_of}
use Rattle.expr_pattern.proofs.matcher.finds_between_characters.Given as goal

abbrev pub invariant-places : goal.invariant-places
invariant-places l =
    (l.at ≤ length l.hay) × (l.searcher.program.now ≡ l.fn.searcher.program.now)
    × (find_str (pattern_of l.fn.searcher.program.now) l.hay 0 ≡ find_str (pattern_of l.fn.searcher.program.now) l.hay l.at)

abbrev pub decreases-places : goal.decreases-places
decreases-places l = length l.hay - l.at
