use Rattle.std.proofs.Common.{◌≡◌, [], ◌∷◌, option_map, sym, ap, ◌∙◌}
use Rattle.std.proofs.lemmas.Bool.{false≢true}
use Rattle.expr_costs.proofs.Places.{one_item, two_items}
use Rattle.expr_costs.proofs.Reducing.{reduced_from, reduced_with}
use Rattle.expr_functions.specs.declared.functions.HigherOrderCall.TheVariants.{Reduce}
use Rattle.expr_costs.proofs.retention.first_retained.Goals as goal
use Rattle.expr_costs.proofs.retention.first_retained.Goals.{in-Reduce, in_default}

pub returns-in_ok-as_array-in-len1 : goal.returns-in_ok-as_array-in-len1
returns-in_ok-as_array-in-len1 c =
    let vs = c.args.arguments.now in
    let name : c.args.call ≡ Reduce = elim c.match-matches.branch [ in-Reduce w ↦ w.in-Reduce.is | in_default w ↦ absurd (false≢true (sym w.matches-is ∙ c.if-not-matches.false)) ] in
    let alone : vs ≡ c.get.result.now ∷ [] = one_item vs c.array-item.result c.in-len1.len_at_least c.in-len1.len_below c.array-item.is ∙ ap (λ v. v ∷ []) (sym c.get.ensures) in
    let items = sym c.as_array.ensures ∙ ap (λ o. option_map (λ xs. xs.now) o) c.in_ok-as_array-in-len1.was in
    reduced_from (λ v. v.now) c.args.call vs c.in_ok-as_array-in-len1.field-0.now c.get.result.now c.first.result name alone items c.first.ensures.value

pub returns-in_ok-as_array-in-len2 : goal.returns-in_ok-as_array-in-len2
returns-in_ok-as_array-in-len2 c =
    let vs = c.args.arguments.now in
    let name : c.args.call ≡ Reduce = elim c.match-matches.branch [ in-Reduce w ↦ w.in-Reduce.is | in_default w ↦ absurd (false≢true (sym w.matches-is ∙ c.if-not-matches.false)) ] in
    let both : vs ≡ c.get-in-len2.result.now ∷ c.get-in-len2-2.result.now ∷ [] =
    two_items vs c.array-item-then-arguments-lt3.result c.more-item.result c.in-len2.len_at_least c.in-len2.len_below c.array-item-then-arguments-lt3.is c.more-item.is
    ∙ sym (λ i. c.get-in-len2.ensures i ∷ c.get-in-len2-2.ensures i ∷ []) in
    let items = sym c.as_array-in-len2.ensures ∙ ap (λ o. option_map (λ xs. xs.now) o) c.in_ok-as_array-in-len2.was in
    reduced_with c.args.call vs c.in_ok-as_array-in-len2.field-0.now c.get-in-len2.result.now c.get-in-len2-2.result.now name both items
