use Rattle.std.proofs.Common.{◌≡◌, ◌++◌, ◌∷◌, [], append_assoc, nat_cmp, string_bytes, sym, ap, ◌∙◌, subst, rules}
use Rattle.std.specs.Cmp.Lexicographic.{slice_cmp}
use Rattle.std.specs.List.Sorted.{IsStrictlySortedBy}
use Rattle.std.specs.Map.{keys_of}
use Rattle.expr_value.specs.Names.{put}
use Rattle.expr_encoding.specs.Tokens.{lent_pairs}
use Rattle.expr_encoding.proofs.Lent.{names_rise, put_above}
use Rattle.expr_encoding.proofs.members.context_of.Goals as goal

pub loop-name-preserved : goal.loop-name-preserved
loop-name-preserved c =
    let l = c.loop-name in
    let k = c.in-Some.name.now.now in
    let v = c.in-Some.value.now in
    let left = lent_pairs c.next.new.self in
    let all : l.context ++ (k, v) ∷ left ≡ lent_pairs c.args.lent.now.entries = ap (λ es. l.context ++ lent_pairs es) (sym c.in-Some.ensures.steps) ∙ l.invariant in
    let rising = subst (λ ps. IsStrictlySortedBy (slice_cmp nat_cmp) (keys_of ps)) (sym all) (names_rise c.args.lent.now.entries c.iter-name-items.ensures.ordered) in
    let named_so : string_bytes c.in_ok-from_str.field-0 ≡ k = search rules in
    let same : c.in_ok-clone.field-0 ≡ v = search rules in
    let last = c.in_ok-insert.ensures.ok ∙ (λ i. put (named_so i) (same i) l.context) ∙ put_above l.context k v left rising in
    ap (λ ps. ps ++ left) last ∙ append_assoc l.context ((k, v) ∷ []) left ∙ all
