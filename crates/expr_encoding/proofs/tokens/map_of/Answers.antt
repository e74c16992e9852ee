use Rattle.std.proofs.Common.{◌≡◌, ◌++◌, ◌∷◌, [], append_assoc, nat_cmp, sym, ap, ◌∙◌, subst, rules}
use Rattle.std.specs.Cmp.Lexicographic.{slice_cmp}
use Rattle.std.specs.List.Sorted.{IsStrictlySortedBy}
use Rattle.std.specs.Map.{keys_of}
use Rattle.expr_value.specs.Names.{put}
use Rattle.expr_encoding.specs.Tokens.{lent_pairs}
use Rattle.expr_encoding.proofs.Lent.{names_rise, put_above}
use Rattle.expr_encoding.proofs.tokens.map_of.Goals as goal

pub loop-name-preserved : goal.loop-name-preserved
loop-name-preserved c =
    let l = c.loop-name in
    let k = c.in-Some.name.now in
    let v = c.in-Some.member in
    let left = lent_pairs c.next.new.self in
    let all : l.pairs ++ (k, v) ∷ left ≡ lent_pairs c.args.members.entries = ap (λ es. l.pairs ++ lent_pairs es) (sym c.in-Some.ensures.steps) ∙ l.invariant in
    let rising = subst (λ ps. IsStrictlySortedBy (slice_cmp nat_cmp) (keys_of ps)) (sym all) (names_rise c.args.members.entries c.len.ensures.ordered) in
    let named_so : c.in-Ok-copy.name ≡ k = search rules in
    let last = c.in-Ok-insert.ensures.ok ∙ ap (λ n. put n v l.pairs) named_so ∙ put_above l.pairs k v left rising in
    ap (λ ps. ps ++ left) last ∙ append_assoc l.pairs ((k, v) ∷ []) left ∙ all
