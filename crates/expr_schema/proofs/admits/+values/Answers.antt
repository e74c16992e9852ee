use Rattle.std.proofs.Common.{◌≡◌, ◌<◌, ◌≤◌, true, false, Some, length, refl, sym, ap, ◌∙◌, subst, arith}
use Rattle.std.proofs.lemmas.Cmp.{nat_list_eq_equiv}
use Rattle.std.proofs.lemmas.List.{length-map}
use Rattle.std.proofs.lemmas.Map.Entries.{lookup_from_place}
use Rattle.std.proofs.lemmas.Option.{get_or_from_slice_get}
use Rattle.expr_pairs.proofs.Beside.{keyed_at}
use Rattle.expr_schema.specs.Kinds.{array, datetime, keyed, HasKind}
use Rattle.expr_schema.specs.KindView.{fields_view, kind_view}
use Rattle.expr_schema.proofs.Kept.{yes, also, array_kept, keyed_kept, keyed_values}
use Rattle.expr_schema.proofs.Lists.{Each-more, Each-done}
use Rattle.expr_schema.proofs.Shapes.{kind_view-Array, kind_view-DateTime, kind_view-KeyedMap}
use Rattle.expr_schema.proofs.Standing.{Standing, nothing_at, others_at, entry_at, stand_both, stand_not, values_stand}
use Rattle.expr_schema.proofs.admits.+values.Goals as goal

pub is_other-returns-in-DateTime-matches : goal.is_other-returns-in-DateTime-matches
is_other-returns-in-DateTime-matches t c = λ p q.
    yes _ datetime c.args.value.now (ap kind_view c.in-DateTime.is ∙ kind_view-DateTime) (c.in-DateTime-matches.field-0, c.in-DateTime-matches.is)

pub is_other-returns-in-Array-value : goal.is_other-returns-in-Array-value
is_other-returns-in-Array-value t c = λ p q.
    let k = c.in-Array.item in
    also _ (array (kind_view k)) c.args.value.now (ap kind_view c.in-Array.is ∙ kind_view-Array k) c.are_of.result
    (array_kept c.are_of.result (kind_view k) (kind_view c.get.result.now) c.in-Array-value.items c.as_slice.result.now c.args.value.now c.in-Array-value.is c.as_slice.ensures (ap kind_view c.get.ensures) c.are_of.ensures)

pub is_other-returns-in-KeyedMap-value : goal.is_other-returns-in-KeyedMap-value
is_other-returns-in-KeyedMap-value t c = λ p q.
    let k = c.in-KeyedMap.item in
    let r = c.are_of-in-KeyedMap-value.result in
    also _ (keyed (kind_view k)) c.args.value.now (ap kind_view c.in-KeyedMap.is ∙ kind_view-KeyedMap k) r
    (keyed_kept r (kind_view k) c.in-KeyedMap-value.map c.args.value.now c.in-KeyedMap-value.is (
    keyed_values r (kind_view k) (kind_view c.get-in-KeyedMap-value.result.now) c.in-KeyedMap-value.map c.values.result.now c.values.ensures (ap kind_view c.get-in-KeyedMap-value.ensures) c.are_of-in-KeyedMap-value.ensures
    ))

pub may_stand-returns-in-Some : goal.may_stand-returns-in-Some
may_stand-returns-in-Some t c =
    let s = entry_at c.args.fields.now c.args.name.now c.in-Some.field.now (sym c.in-Some.ensures) (Some c.args.value.now) in
    (λ t. s.1 (c.is_of.ensures.0 t), λ h. c.is_of.ensures.1 (s.0 h))

pub may_stand-returns-in-Some-others : goal.may_stand-returns-in-Some-others
may_stand-returns-in-Some-others t c =
    let v = c.args.value.now in
    let k = c.in-Some-others.kind in
    let s = others_at c.args.fields.now c.args.name.now (sym c.in-None.ensures) k c.in-Some-others.is (Some v) in
    let w = c.is_of-in-Some-others.ensures in
    (λ t. s.1 (subst (λ j. HasKind (kind_view j) v) c.get.ensures (w.0 t)), λ h. w.1 (subst (λ j. HasKind (kind_view j) v) (sym c.get.ensures) (s.0 h)))

pub may_stand-returns-in-None-others : goal.may_stand-returns-in-None-others
may_stand-returns-in-None-others t c =
    let s = nothing_at c.args.fields.now c.args.name.now (sym c.in-None.ensures) c.in-None-others.is (Some c.args.value.now) in
    (λ t. absurd (cc t), λ h. absurd (cc (s.0 h)))

pub names_stand-returns-then-not-may_stand : goal.names_stand-returns-then-not-may_stand
names_stand-returns-then-not-may_stand t c =
    let es = c.args.map.now in
    let i = c.loop-i.i in
    let k = c.index-names-i.result in
    let v = c.index-values-i.result in
    let within : i < length es = omega (arith, c.loop-i-test.true, ap length c.values-values.ensures, length-map es (λ e. e.1)) in
    let at = keyed_at c.keys-names.result.now c.values-values.result.now es i k v c.keys-names.ensures.keys c.values-values.ensures within c.index-names-i.is c.index-values-i.is in
    let own = lookup_from_place nat_list_eq_equiv es i k v c.keys-names.ensures.distinct at in
    (λ t. absurd (cc t), λ h. let q : true ≡ false = sym (c.may_stand.ensures.1 (h k v own)) ∙ c.if-not-may_stand.true in absurd (cc q))

pub names_stand-loop-i-preserved : goal.names_stand-loop-i-preserved
names_stand-loop-i-preserved t c =
    let es = c.args.map.now in
    let i = c.loop-i.i in
    let k = c.index-names-i.result in
    let v = c.index-values-i.result in
    let within : i < length es = omega (arith, c.loop-i-test.true, ap length c.values-values.ensures, length-map es (λ e. e.1)) in
    let at = keyed_at c.keys-names.result.now c.values-values.result.now es i k v c.keys-names.ensures.keys c.values-values.ensures within c.index-names-i.is c.index-values-i.is in
    Each-more (Standing c.args.fields.now c.args.map.now) es i (k, v) within (sym (get_or_from_slice_get es i _ _ at)) c.loop-i.invariant (c.may_stand.ensures.0 c.if-not-may_stand.false)

pub names_stand-returns : goal.names_stand-returns
names_stand-returns t c =
    let es = c.args.map.now in
    let past : length es ≤ c.loop-i.i = omega (arith, c.loop-i-test.false, ap length c.values-values.ensures, length-map es (λ e. e.1)) in
    (λ t. values_stand c.args.fields.now es (Each-done (Standing c.args.fields.now es) es c.loop-i.i past c.loop-i.invariant), λ h. refl)

pub stand-returns-then-names_stand : goal.stand-returns-then-names_stand
stand-returns-then-names_stand t c = stand_both (fields_view c.args.fields.now) c.args.map.now c.required_stand.result (c.names_stand.ensures.0 c.if-names_stand.true) c.required_stand.ensures

pub stand-returns-else-names_stand : goal.stand-returns-else-names_stand
stand-returns-else-names_stand t c = stand_not (fields_view c.args.fields.now) c.args.map.now c.names_stand.result c.if-names_stand.false c.names_stand.ensures
