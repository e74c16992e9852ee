use Rattle.std.proofs.Common.{◌≡◌, map, string_bytes, IfOk, rules, sym, subst}
use Rattle.std.specs.List.Sorted.{IsStrictlySortedBy}
use Rattle.std.specs.Cmp.Lexicographic.{slice_cmp}
use Rattle.std.specs.Ordering.{nat_cmp}
use Rattle.expr_tree.proofs.Rising.{IfOk-under, sorted_bytes}
use Rattle.expr_lowering.proofs.name_set.NameSet.into_vec.Goals as goal

pub returns-clause-ascending : goal.returns-clause-ascending
returns-clause-ascending c =
    let named : IfOk c.collect.result (λ ns. map string_bytes ns.items ≡ map string_bytes c.self.inside.set.keys) = search rules in
    IfOk-under c.collect.result _ _ (λ ns e. subst (IsStrictlySortedBy (slice_cmp nat_cmp)) (sym e) (sorted_bytes c.self.inside.set.keys c.self.invariant)) named
