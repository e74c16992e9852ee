use Rattle.std.proofs.Common.{◌++◌, map, take, codes}
use Rattle.std.specs.Cmp.Lexicographic.{slice_cmp}
use Rattle.std.specs.Fmt.{HasWritten, IsPlainFormatter}
use Rattle.std.specs.Ordering.{nat_cmp}
use Rattle.expr_value.specs.Keys.{key_cmp}
use Rattle.expr_value.specs.Sorted.{by_key, sorted_items}
use Rattle.expr_value.specs.Strings.{pair_string, keyed_string, string_text}
use Rattle.expr_value.specs.Values.{joined_text}
use Rattle.expr_value.proofs.string_text.+string_text.Given as goal

abbrev pub invariant-show_string_items-loop-i : goal.invariant-show_string_items-loop-i
invariant-show_string_items-loop-i g l =
    IsPlainFormatter l.fn.f → HasWritten g.W.Write.write_str_gives l.fn.f (codes "[" ++ joined_text (codes " ") (map string_text (take l.i l.items))) l.f

abbrev pub invariant-show_string_map-loop-i : goal.invariant-show_string_map-loop-i
invariant-show_string_map-loop-i g l =
    IsPlainFormatter l.fn.f → HasWritten g.W.Write.write_str_gives l.fn.f (codes "map[" ++ joined_text (codes " ") (map pair_string (take l.i (sorted_items (by_key (slice_cmp nat_cmp)) l.members)))) l.f

abbrev pub invariant-show_string_keyed-loop-i : goal.invariant-show_string_keyed-loop-i
invariant-show_string_keyed-loop-i g l =
    IsPlainFormatter l.fn.f → HasWritten g.W.Write.write_str_gives l.fn.f (codes "map[" ++ joined_text (codes " ") (map keyed_string (take l.i (sorted_items (by_key key_cmp) l.members)))) l.f
