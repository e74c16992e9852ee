use Rattle.std.proofs.Common.{rules, ◌≡◌, [], map, zip, sym, ap, ◌∙◌}
use Rattle.std.proofs.lemmas.Iterator.{YieldsList-from_zip}
use Rattle.std.proofs.lemmas.Iterator.Adapters.{YieldsList-from_vec}
use Rattle.std.proofs.lemmas.Iterator.Consumers.{YieldsList-end}
use Rattle.std.proofs.lemmas.List.{map_push, map-id}
use Rattle.std.proofs.lemmas.List.Sums.{fold_push}
use Rattle.expr_value.specs.Keys.{key_eq, key_eq_equiv, key_put, key_put_all}
use Rattle.expr_value.specs.declared.key.Key.{Key}
use Rattle.expr_value.specs.declared.value.Value as value
use Rattle.expr_value.specs.declared.value.Value.{Value}
use Rattle.expr_predicates.specs.Grouping.{items_of_key, with_array}
use Rattle.expr_predicates.proofs.Grouped.{all_made, beside, Made}
use Rattle.expr_predicates.proofs.grouping.Groups.into_map.Goals as goal

pub loop-key-init : goal.loop-key-init
loop-key-init c = c.in_ok-map.ensures.ok

pub loop-key-preserved : goal.loop-key-preserved
loop-key-preserved c =
    c.in_ok-insert.ensures.ok
    ∙ (λ i. key_put c.in-Some.key (value.Array (c.from_vec.ensures i)) (c.loop-key.invariant i))
    ∙ sym (fold_push (λ done p. key_put p.0 p.1 done) [] (map with_array c.loop-key.yielded) (with_array (c.in-Some.key, c.in-Some.items)))
    ∙ ap (key_put_all []) (sym (map_push with_array c.loop-key.yielded (c.in-Some.key, c.in-Some.items)))

pub returns-clause-ok : goal.returns-clause-ok
returns-clause-ok c = λ ps h.
    let ks = c.in_ok-keys.keys.items in
    let same : ks ≡ c.args.self.keys = c.in_ok-keys.ensures.keys in
    let ls = c.args.self.items.items in
    let f : Key → Value = λ k. value.Array (items_of_key ps k) in
    let road = YieldsList-from_zip {s = c.into_iter-key-iterator.result} (YieldsList-from_vec ks (search rules) (search rules)) (YieldsList-from_vec ls (search rules) (search rules)) in
    let end = YieldsList-end road c.loop-key.yielded c.loop-key.key-iterator c.loop-key.yielded_by c.next.result c.next.new.self c.in-None.is c.next.ensures.steps in
    let yielded : c.loop-key.yielded ≡ zip ks ls = sym (map-id c.loop-key.yielded) ∙ end.0 in
    c.loop-key.invariant ∙ ap (λ l. key_put_all [] (map with_array l)) yielded ∙ ap (key_put_all []) (beside value.Array (λ l. l.items) (items_of_key ps) ks ls (h.items ∙ ap (map (items_of_key ps)) (sym same)))
    ∙ all_made key_eq key_eq_equiv f ks c.in_ok-keys.ensures.distinct ∙ ap (Made key_eq key_eq_equiv f) (same ∙ h.keys)
