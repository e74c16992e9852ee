use Rattle.std.proofs.Common.{◌≡◌, ◌+◌, ◌<◌, ◌≤◌, option_map, length, take, bytes_eq, sym, ap, ◌∙◌, subst, arith, rules}
use Rattle.std.proofs.lemmas.Cmp.{nat_list_eq_equiv}
use Rattle.std.proofs.lemmas.List.{length-map}
use Rattle.std.proofs.lemmas.Map.Entries.{lookup_from_place}
use Rattle.std.proofs.lemmas.Option.{get_or_from_slice_get}
use Rattle.indexmap.specs.IndexMap.{insert_entry}
use Rattle.expr_pairs.proofs.Beside.{keyed_at}
use Rattle.expr_schema.specs.Joins.{HasNames, HoldsBoth, LetsInto, OthersLet}
use Rattle.expr_schema.specs.KindView.{entry_view, fields_view, kind_view, others_of}
use Rattle.expr_schema.specs.Kinds.{Each, Fits}
use Rattle.expr_schema.specs.declared.kind.Fields as memory_fields
use Rattle.expr_schema.specs.declared.kind.Fields.{out-Fields, roll-Fields}
use Rattle.expr_schema.specs.declared.kind.FieldKind.{FieldKind}
use Rattle.expr_schema.specs.declared.kind.Kind.{Kind, the_lemmas}
use Rattle.expr_schema.specs.declared.kind.Kind.TheOpen.{Fields-F}
use Rattle.expr_schema.proofs.Joined.{Each-insert, Has, covers_by, has_now, has_still, into_named, into_unnamed, joined_lets, names_still, step_has, step_holds, step_keeps}
use Rattle.expr_schema.proofs.Lists.{Each-done, Each-more, Each-weaker}
use Rattle.expr_schema.proofs.Shapes.{entry_view-required}
use Rattle.expr_schema.proofs.Standing.{find-entries}
use Rattle.expr_schema.proofs.Unions.{array_into, if_some, into_core_or_nil, keyed_into, made_lets, others_made}
use Rattle.expr_schema.proofs.joining.+join.Goals as goal

pub join_named-loop-i-preserved : goal.join_named-loop-i-preserved
join_named-loop-i-preserved t c =
    let a = c.args.a.now in
    let b = c.args.b.now in
    let es = (out-Fields a).named in
    let i = c.loop-i.i in
    let k = c.index-names-i.result in
    let g = c.index-entries-i.result in
    let m = c.loop-i.named in
    let s = c.in_ok-joined.joined in
    let within : i < length es = omega (arith, c.loop-i-test.true, ap length c.values-entries.ensures, length-map es (λ e. e.1)) in
    let at = keyed_at c.keys-names.result.now c.values-entries.result.now es i k g c.keys-names.ensures.keys c.values-entries.ensures within c.index-names-i.is c.index-entries-i.is in
    let own = lookup_from_place nat_list_eq_equiv es i k g c.keys-names.ensures.distinct at in
    let same : c.in_ok-copied.copied ≡ k = search rules in
    let next : c.insert.new.self ≡ insert_entry bytes_eq m k s = c.in_ok-insert.ensures.ok ∙ ap (λ n. insert_entry bytes_eq m n s) same in
    let both : HoldsBoth a b (k, s) = (into_named a k (entry_view s) g own c.in_ok-joined.ensures.left, c.in_ok-joined.ensures.right) in (
      subst (Each (HoldsBoth a b)) (sym next) (Each-insert (HoldsBoth a b) m k s c.loop-i.invariant.0 both),
      subst (λ n. Each (λ e. Has n e.0) (take (i + 1) es)) (sym next) (
          Each-more (λ e. Has (insert_entry bytes_eq m k s) e.0) es i (k, g) within (sym (get_or_from_slice_get es i _ _ at))
          (Each-weaker (λ e. Has m e.0) (λ e. Has (insert_entry bytes_eq m k s) e.0) (λ e h. has_still m k s e.0 h) (take i es) c.loop-i.invariant.1) (has_now m k s)
          ),
    )

pub join_named-returns-clause-covers : goal.join_named-returns-clause-covers
join_named-returns-clause-covers t c =
    let es = (out-Fields c.args.a.now).named in
    let past : length es ≤ c.loop-i.i = omega (arith, c.loop-i-test.false, ap length c.values-entries.ensures, length-map es (λ e. e.1)) in
    covers_by c.args.a.now c.loop-i.named (Each-done (λ e. Has c.loop-i.named e.0) es c.loop-i.i past c.loop-i.invariant.1)

pub join-returns-then-takes_nil-clause-right : goal.join-returns-then-takes_nil-clause-right
join-returns-then-takes_nil-clause-right t c =
    into_core_or_nil (kind_view c.args.b.now) (kind_view c.without_nil.result.now) c.without_nil.ensures.values (kind_view c.in_ok-core.core) (kind_view c.in_ok-joined.joined) c.in_ok-joined.ensures.ok c.in_ok-core.ensures.right

pub join_core-returns-in_ok-joined-in-Array-b-clause-left : goal.join_core-returns-in_ok-joined-in-Array-b-clause-left
join_core-returns-in_ok-joined-in-Array-b-clause-left t c =
    array_into c.args.a.now c.in-Array.item c.get-in-Array-b.result.now (kind_view c.in_ok-part-in-Array-b.part) (kind_view c.in_ok-joined-in-Array-b.joined) c.get-in-Array-b.ensures c.in_ok-part-in-Array-b.ensures.left c.in-Array.is c.in_ok-joined-in-Array-b.ensures.ok

pub join_core-returns-in_ok-joined-in-Array-b-clause-right : goal.join_core-returns-in_ok-joined-in-Array-b-clause-right
join_core-returns-in_ok-joined-in-Array-b-clause-right t c =
    array_into c.args.b.now c.in-Array-b.other c.get-in-Array-b-2.result.now (kind_view c.in_ok-part-in-Array-b.part) (kind_view c.in_ok-joined-in-Array-b.joined) c.get-in-Array-b-2.ensures c.in_ok-part-in-Array-b.ensures.right c.in-Array-b.is c.in_ok-joined-in-Array-b.ensures.ok

pub join_core-returns-in_ok-joined-in-KeyedMap-b-clause-left : goal.join_core-returns-in_ok-joined-in-KeyedMap-b-clause-left
join_core-returns-in_ok-joined-in-KeyedMap-b-clause-left t c =
    keyed_into c.args.a.now c.in-KeyedMap.item c.get-in-KeyedMap-b.result.now (kind_view c.in_ok-part-in-KeyedMap-b.part) (kind_view c.in_ok-joined-in-KeyedMap-b.joined) c.get-in-KeyedMap-b.ensures c.in_ok-part-in-KeyedMap-b.ensures.left c.in-KeyedMap.is c.in_ok-joined-in-KeyedMap-b.ensures.ok

pub join_core-returns-in_ok-joined-in-KeyedMap-b-clause-right : goal.join_core-returns-in_ok-joined-in-KeyedMap-b-clause-right
join_core-returns-in_ok-joined-in-KeyedMap-b-clause-right t c =
    keyed_into c.args.b.now c.in-KeyedMap-b.other c.get-in-KeyedMap-b-2.result.now (kind_view c.in_ok-part-in-KeyedMap-b.part) (kind_view c.in_ok-joined-in-KeyedMap-b.joined) c.get-in-KeyedMap-b-2.ensures c.in_ok-part-in-KeyedMap-b.ensures.right c.in-KeyedMap-b.is c.in_ok-joined-in-KeyedMap-b.ensures.ok

-- fields that are made of a map and what stands at the others
out-made : (r : Fields-F Kind FieldKind memory_fields.Fields) → out-Fields (roll-Fields r) ≡ r
out-made r = search (rules, the_lemmas)

pub join_fields-returns-clause-left : goal.join_fields-returns-clause-left
join_fields-returns-clause-left t c =
    let a = c.args.a.now in
    let b = c.args.b.now in
    let layer : Fields-F Kind FieldKind memory_fields.Fields = record { named = c.in_ok-named.named; others = c.in_ok-others.others } in
    let named : c.in_ok-named.named ≡ (out-Fields (roll-Fields layer)).named = sym (ap (λ l. l.named) (out-made layer)) in
    let others : c.in_ok-others.others ≡ (out-Fields (roll-Fields layer)).others = sym (ap (λ l. l.others) (out-made layer)) in
    joined_lets a (roll-Fields layer) (subst (HasNames a) named (c.in_ok-named.ensures.keeps c.in_ok-first.ensures.covers))
    (subst (λ o. OthersLet (others_of a) (option_map kind_view o)) others c.in_ok-others.ensures.left)
    (subst (Each (λ e. LetsInto (fields_view a) e.0 (entry_view e.1))) named (
    Each-weaker (HoldsBoth a b) (λ e. LetsInto (fields_view a) e.0 (entry_view e.1)) (λ e h. h.0) c.in_ok-named.named (c.in_ok-named.ensures.holds c.in_ok-first.ensures.holds c.in_ok-first.ensures.covers)
    ))

pub join_fields-returns-clause-right : goal.join_fields-returns-clause-right
join_fields-returns-clause-right t c =
    let a = c.args.a.now in
    let b = c.args.b.now in
    let layer : Fields-F Kind FieldKind memory_fields.Fields = record { named = c.in_ok-named.named; others = c.in_ok-others.others } in
    let named : c.in_ok-named.named ≡ (out-Fields (roll-Fields layer)).named = sym (ap (λ l. l.named) (out-made layer)) in
    let others : c.in_ok-others.others ≡ (out-Fields (roll-Fields layer)).others = sym (ap (λ l. l.others) (out-made layer)) in
    joined_lets b (roll-Fields layer) (subst (HasNames b) named c.in_ok-named.ensures.covers)
    (subst (λ o. OthersLet (others_of b) (option_map kind_view o)) others c.in_ok-others.ensures.right)
    (subst (Each (λ e. LetsInto (fields_view b) e.0 (entry_view e.1))) named (
    Each-weaker (HoldsBoth a b) (λ e. LetsInto (fields_view b) e.0 (entry_view e.1)) (λ e h. h.1) c.in_ok-named.named (c.in_ok-named.ensures.holds c.in_ok-first.ensures.holds c.in_ok-first.ensures.covers)
    ))

pub join_entry-returns-in_ok-kind-in-Some-clause-right : goal.join_entry-returns-in_ok-kind-in-Some-clause-right
join_entry-returns-in_ok-kind-in-Some-clause-right t c =
    let g = c.in-Some.other.now in
    into_named c.args.fields.now c.args.name.now _ g (sym c.in-Some.ensures) (
    made_lets c.in_ok-kind-in-Some.kind c.both_require-required.result g c.in_ok-kind-in-Some.ensures.right (λ e. sym (entry_view-required g) ∙ c.both_require-required.ensures.right e)
    )

pub join_entry-returns-in_ok-kind-in-None-clause-right : goal.join_entry-returns-in_ok-kind-in-None-clause-right
join_entry-returns-in_ok-kind-in-None-clause-right t c =
    let f = c.args.fields.now in
    let k = c.in_ok-kind-in-None.kind in
    into_unnamed f c.args.name.now _ (find-entries c.args.name.now (out-Fields f).named ∙ ap (option_map entry_view) (sym c.in-None.ensures)) (
    others_made (out-Fields f).others k (if_some (out-Fields f).others (λ l. Fits (kind_view l) (kind_view k)) c.in_ok-kind-in-None.ensures.right)
    )

pub join_unnamed-loop-i-preserved : goal.join_unnamed-loop-i-preserved
join_unnamed-loop-i-preserved t c =
    let a = c.args.a.now in
    let b = c.args.b.now in
    let es = (out-Fields b).named in
    let i = c.loop-i.i in
    let k = c.index-names-i.result in
    let g = c.index-entries-i.result in
    let m = c.loop-i.named in
    let m' = c.in_ok-named.named in
    let within : i < length es = omega (arith, c.loop-i-test.true, ap length c.values-entries.ensures, length-map es (λ e. e.1)) in
    let at = keyed_at c.keys-names.result.now c.values-entries.result.now es i k g c.keys-names.ensures.keys c.values-entries.ensures within c.index-names-i.is c.index-entries-i.is in
    let own = lookup_from_place nat_list_eq_equiv es i k g c.keys-names.ensures.distinct at in
    let kept = c.in_ok-named.ensures.kept in
    let added = c.in_ok-named.ensures.added in
    let keeps = step_keeps a b m m' k g kept added in (
      λ all covered. step_holds a b m m' k g kept added own (names_still a c.args.named m c.loop-i.invariant.1 covered) (c.loop-i.invariant.0 all covered),
      λ n h. keeps n (c.loop-i.invariant.1 n h),
      Each-more (λ e. Has m' e.0) es i (k, g) within (sym (get_or_from_slice_get es i _ _ at))
          (Each-weaker (λ e. Has m e.0) (λ e. Has m' e.0) (λ e h. keeps e.0 h) (take i es) c.loop-i.invariant.2) (step_has a b m m' k g kept added),
    )

pub join_unnamed-returns-clause-covers : goal.join_unnamed-returns-clause-covers
join_unnamed-returns-clause-covers t c =
    let es = (out-Fields c.args.b.now).named in
    let past : length es ≤ c.loop-i.i = omega (arith, c.loop-i-test.false, ap length c.values-entries.ensures, length-map es (λ e. e.1)) in
    covers_by c.args.b.now c.loop-i.named (Each-done (λ e. Has c.loop-i.named e.0) es c.loop-i.i past c.loop-i.invariant.2)

pub join_unnamed_at-returns-clause-added : goal.join_unnamed_at-returns-clause-added
join_unnamed_at-returns-clause-added t c = λ none.
    let k = c.args.name.now in
    let s = c.in_ok-joined.joined in
    let same : c.in_ok-copied.copied ≡ k = search rules in
    (s, c.in_ok-insert.ensures.ok ∙ ap (λ n. insert_entry bytes_eq c.args.named n s) same, c.in_ok-joined.ensures.left, c.in_ok-joined.ensures.right)
