use Rattle.std.proofs.Common.{◌≡◌, ◌+◌, ◌<◌, true, [], ◌∷◌, ◌++◌, Some, None, length, take, bytes_eq, sym, ap, ◌∙◌, subst, arith, rules}
use Rattle.std.proofs.lemmas.List.{length-map, take_all, take_more}
use Rattle.std.proofs.lemmas.Option.{get_or_from_slice_get}
use Rattle.std.proofs.lemmas.Result.{IfOk-weaker}
use Rattle.std.specs.Map.{lookup}
use Rattle.expr_pairs.proofs.Beside.{keyed_at}
use Rattle.expr_value.specs.Names.{find}
use Rattle.expr_schema.specs.Kinds.{Each, HasKind, StandsAt, field, keyed}
use Rattle.expr_schema.specs.KindView.{entry_view, fields_view, kind_view}
use Rattle.expr_schema.proofs.Insertion.{fresh}
use Rattle.expr_schema.proofs.Lists.{Each-more, Each-values, Each-weaker}
use Rattle.expr_schema.proofs.Sampled.{one_more}
use Rattle.expr_schema.proofs.Unions.{made_has, made_of}
use Rattle.expr_schema.proofs.samples.+samples.Goals as goal

pub kind_of_value-returns-in_ok-item-in-KeyedMap-clause-ok : goal.kind_of_value-returns-in_ok-item-in-KeyedMap-clause-ok
kind_of_value-returns-in_ok-item-in-KeyedMap-clause-ok t c =
    let m = c.in-KeyedMap.map in
    let j = kind_view c.in_ok-item-in-KeyedMap.item in
    let each : Each (λ e. HasKind j e.1) m = Each-values (λ v. HasKind j v) m (subst (λ l. Each (λ v. HasKind j v) l) c.values.ensures c.in_ok-item-in-KeyedMap.ensures.ok) in
    IfOk-weaker c.keyed_map.result (λ k. kind_view k ≡ keyed j) (λ k. HasKind (kind_view k) c.args.value.now) (λ k e. subst (λ i. HasKind i c.args.value.now) (sym e) (m, c.in-KeyedMap.is, each)) c.keyed_map.ensures.ok

pub kind_of_values-loop-value-preserved : goal.kind_of_values-loop-value-preserved
kind_of_values-loop-value-preserved t c =
    let vs = c.args.values.now in
    let i = c.loop-value.value-index in
    let old = kind_view c.loop-value.kind in
    let new = kind_view c.in_ok-kind.kind in
    Each-more (λ v. HasKind new v) vs i c.value-item.result c.loop-value-test.true c.value-item.is
    (Each-weaker (λ v. HasKind old v) (λ v. HasKind new v) c.in_ok-kind.ensures.kept (take i vs) c.loop-value.invariant) c.in_ok-kind.ensures.added

pub fields_of_map-loop-i-preserved : goal.fields_of_map-loop-i-preserved
fields_of_map-loop-i-preserved t c = λ n.
    let es = c.args.map.now in
    let i = c.loop-i.i in
    let k = c.index-names-i.result in
    let v = c.index-values-i.result in
    let F = fields_view c.loop-i.fields in
    let j = c.in_ok-kind.kind in
    let e = entry_view (made_of j true) in
    let within : i < length es = omega (arith, c.loop-i-test.true, ap length c.values-values.ensures, length-map es (λ e. e.1)) in
    let at = keyed_at c.keys-names.result.now c.values-values.result.now es i k v c.keys-names.ensures.keys c.values-values.ensures within c.index-names-i.is c.index-values-i.is in
    let none : lookup (bytes_eq k) (take i es) ≡ None = fresh es i k v c.keys-names.ensures.distinct at in
    let same : c.in_ok-name.name ≡ k = search rules in
    let longer : take i es ++ (k, v) ∷ [] ≡ take (i + 1) es = ap (λ y. take i es ++ y ∷ []) (sym (get_or_from_slice_get es i _ _ at)) ∙ sym (take_more es i (k, v) within) in
    (c.in_ok-insert.ensures.ok n (find n (take (i + 1) es))).1 (
    subst (λ l. StandsAt (field c.in_ok-name.name e.kind e.required F) n (find n l)) longer (
    subst (λ a. StandsAt (field a e.kind e.required F) n (find n (take i es ++ (k, v) ∷ []))) (sym same) (
    one_more F (take i es) k v e.kind e.required (made_has j true (Some v) c.in_ok-kind.ensures.ok) none c.loop-i.invariant n
    )
    )
    )

pub fields_of_map-returns-clause-ok : goal.fields_of_map-returns-clause-ok
fields_of_map-returns-clause-ok t c = λ n.
    let es = c.args.map.now in
    subst (λ l. StandsAt (fields_view c.loop-i.fields) n (find n l))
    (take_all c.loop-i.i es (omega (arith, c.loop-i-test.false, ap length c.values-values.ensures, length-map es (λ e. e.1)))) (c.loop-i.invariant n)
