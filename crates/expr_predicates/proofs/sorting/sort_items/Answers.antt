use Rattle.std.proofs.Common.{rules, ◌≡◌, true, false, Ok, Err, sym, ◌∙◌, subst}
use Rattle.expr_value.specs.declared.value.Value as value
use Rattle.expr_predicates.specs.Sorting.{IsSorting, Sorts, own_keys, items_alike, own_answers}
use Rattle.expr_predicates.proofs.Own.{alike_own, refuses_alone, sorts_alone}
use Rattle.expr_predicates.proofs.sorting.sort_items.Goals as goal

pub returns-then-not-are_alike_items : goal.returns-then-not-are_alike_items
returns-then-not-are_alike_items c = λ m.
    let xs = c.args.items.items in
    let e : items_alike xs ≡ false = search rules in
    subst (λ f. Sorts c.args.down (own_answers xs) (Err f)) (sym (c.unlike_items.ensures m)) (refuses_alone c.args.down xs (alike_own xs ∙ e))

pub returns : goal.returns
returns c =
    let xs = c.args.items.items in
    let qs = c.sort_pairs.new.pairs.items in
    let e : items_alike xs ≡ true = search rules in
    let h : IsSorting c.args.down (own_keys xs) qs = subst (λ l. IsSorting c.args.down l qs) c.in_ok-keys.ensures c.in_ok-sort_pairs.ensures in
    subst (λ vs. Sorts c.args.down (own_answers xs) (Ok (value.Array vs))) (sym (c.from_vec.ensures ∙ c.in_ok-items.ensures)) (sorts_alone c.args.down xs qs (alike_own xs ∙ e) h)
