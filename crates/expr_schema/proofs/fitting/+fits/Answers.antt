use Rattle.std.proofs.Common.{◌≡◌, ◌<◌, ◌≤◌, true, false, length, sym, ap, ◌∙◌, subst, arith}
use Rattle.std.proofs.lemmas.List.{length-map}
use Rattle.std.proofs.lemmas.Option.{get_or_from_slice_get}
use Rattle.expr_pairs.proofs.Beside.{keyed_at}
use Rattle.expr_schema.specs.Kinds.{Fits, HasKind}
use Rattle.expr_schema.specs.KindView.{kind_view}
use Rattle.expr_schema.specs.declared.kind.Fields.{out-Fields}
use Rattle.expr_schema.specs.declared.kind.FieldKind.{out-FieldKind}
use Rattle.expr_schema.proofs.Lettings.{EntryFits, UnnamedFits, arrays_fit, by_parts, found_fits, keyed_maps_fit, named_lets, others_both, others_let, others_none, unnamed_lets}
use Rattle.expr_schema.proofs.Lists.{Each-more, Each-done}
use Rattle.expr_schema.proofs.Standing.{others_at, entry_at}
use Rattle.expr_schema.proofs.fitting.+fits.Goals as goal
use Rattle.expr_schema.proofs.fitting.+fits.Goals.{entry_fits-else-other-via-then-other+else-not-entry, entry_fits-else-other-via-else-other, unnamed_fit-else-lacks-via-then-lacks+else-not-unnamed_fits, unnamed_fit-else-lacks-via-else-lacks}

pub fits-returns-in-Array-core : goal.fits-returns-in-Array-core
fits-returns-in-Array-core t c = λ t.
    arrays_fit c.args.a.now c.args.b.now c.without_nil-core.result.now c.in-Array.item c.get-in-Array-core.result.now c.in-Array-core.other c.get-in-Array-core-2.result.now
    c.without_nil-core.ensures.fits c.get-in-Array-core.ensures c.get-in-Array-core-2.ensures (c.fits-in-Array-core.ensures t) c.in-Array.is c.in-Array-core.is

pub fits-returns-in-KeyedMap-core : goal.fits-returns-in-KeyedMap-core
fits-returns-in-KeyedMap-core t c = λ t.
    keyed_maps_fit c.args.a.now c.args.b.now c.without_nil-core.result.now c.in-KeyedMap.item c.get-in-KeyedMap-core.result.now c.in-KeyedMap-core.other c.get-in-KeyedMap-core-2.result.now
    c.without_nil-core.ensures.fits c.get-in-KeyedMap-core.ensures c.get-in-KeyedMap-core-2.ensures (c.fits-in-KeyedMap-core.ensures t) c.in-KeyedMap.is c.in-KeyedMap-core.is

pub named_fit-loop-i-preserved : goal.named_fit-loop-i-preserved
named_fit-loop-i-preserved t c =
    let es = (out-Fields c.args.a.now).named in
    let i = c.loop-i.i in
    let k = c.index-names-i.result in
    let g = c.index-entries-i.result in
    let within : i < length es = omega (arith, c.loop-i-test.true, ap length c.values-entries.ensures, length-map es (λ e. e.1)) in
    let at = keyed_at c.keys-names.result.now c.values-entries.result.now es i k g c.keys-names.ensures.keys c.values-entries.ensures within c.index-names-i.is c.index-entries-i.is in
    Each-more (EntryFits c.args.b.now) es i (k, g) within (sym (get_or_from_slice_get es i _ _ at)) c.loop-i.invariant (c.entry_fits.ensures c.if-not-entry_fits.false)

pub named_fit-returns : goal.named_fit-returns
named_fit-returns t c = λ t n.
    let es = (out-Fields c.args.a.now).named in
    let past : length es ≤ c.loop-i.i = omega (arith, c.loop-i-test.false, ap length c.values-entries.ensures, length-map es (λ e. e.1)) in
    named_lets c.args.a.now c.args.b.now n (Each-done (EntryFits c.args.b.now) es c.loop-i.i past c.loop-i.invariant)

pub others_fit-returns-in-Some-others : goal.others_fit-returns-in-Some-others
others_fit-returns-in-Some-others t c = λ t n.
    let k = c.in-Some.kind in
    let l = c.in-Some-others.other in
    let f : Fits (kind_view k) (kind_view l) = λ v h. subst (λ j. HasKind (kind_view j) v) c.get-in-Some-others.ensures (c.fits.ensures t v (subst (λ j. HasKind (kind_view j) v) (sym c.get.ensures) h)) in
    others_let c.args.a.now c.args.b.now n (λ x. others_both c.args.a.now c.args.b.now x k l c.in-Some.is c.in-Some-others.is f)

pub others_fit-returns-in-None : goal.others_fit-returns-in-None
others_fit-returns-in-None t c = λ t n.
    others_let c.args.a.now c.args.b.now n (λ x. others_none c.args.a.now c.args.b.now x c.in-None.is)

pub entry_fits-returns-else-other : goal.entry_fits-returns-else-other
entry_fits-returns-else-other t c = λ t x h.
    let g = c.args.entry.now in
    let o = c.in-Some.other.now in
    let keeps : (out-FieldKind o).required ≡ true → (out-FieldKind g).required ≡ true = elim c.else-other.branch [
      | entry_fits-else-other-via-then-other+else-not-entry w ↦ λ e. w.if-not-entry.false
      | entry_fits-else-other-via-else-other w ↦ λ e. let q : true ≡ false = sym e ∙ w.if-other.false in absurd (cc q)
    ] in
    (entry_at c.args.fields.now c.args.name.now o (sym c.in-Some.ensures) x).1
    (found_fits (out-FieldKind g).required (out-FieldKind o).required (kind_view (out-FieldKind g).kind) (kind_view (out-FieldKind o).kind) (c.fits.ensures t) keeps x (by_parts g x h))

pub entry_fits-returns-in-Some-others : goal.entry_fits-returns-in-Some-others
entry_fits-returns-in-Some-others t c = λ t x h.
    let g = c.args.entry.now in
    let k = c.in-Some-others.kind in
    let f : Fits (kind_view (out-FieldKind g).kind) (kind_view k) = λ v h. subst (λ j. HasKind (kind_view j) v) c.get.ensures (c.fits-in-Some-others.ensures t v h) in
    (others_at c.args.fields.now c.args.name.now (sym c.in-None.ensures) k c.in-Some-others.is x).1
    (found_fits (out-FieldKind g).required false (kind_view (out-FieldKind g).kind) (kind_view k) f (λ e. absurd (cc e)) x (by_parts g x h))

pub unnamed_fit-loop-i-preserved : goal.unnamed_fit-loop-i-preserved
unnamed_fit-loop-i-preserved t c =
    let es = (out-Fields c.args.b.now).named in
    let i = c.loop-i.i in
    let k = c.index-names-i.result in
    let g = c.index-entries-i.result in
    let within : i < length es = omega (arith, c.loop-i-test.true, ap length c.values-entries.ensures, length-map es (λ e. e.1)) in
    let at = keyed_at c.keys-names.result.now c.values-entries.result.now es i k g c.keys-names.ensures.keys c.values-entries.ensures within c.index-names-i.is c.index-entries-i.is in
    Each-more (UnnamedFits c.args.a.now) es i (k, g) within (sym (get_or_from_slice_get es i _ _ at)) c.loop-i.invariant (
    elim c.else-lacks.branch [
      | unnamed_fit-else-lacks-via-then-lacks+else-not-unnamed_fits w ↦ λ e. w.unnamed_fits.ensures w.if-not-unnamed_fits.false
      | unnamed_fit-else-lacks-via-else-lacks w ↦ λ e. let q : true ≡ false = sym (c.lacks.ensures.1 e) ∙ w.if-lacks.false in absurd (cc q)
    ]
    )

pub unnamed_fit-returns : goal.unnamed_fit-returns
unnamed_fit-returns t c = λ t n.
    let es = (out-Fields c.args.b.now).named in
    let past : length es ≤ c.loop-i.i = omega (arith, c.loop-i-test.false, ap length c.values-entries.ensures, length-map es (λ e. e.1)) in
    unnamed_lets c.args.a.now c.args.b.now n (Each-done (UnnamedFits c.args.a.now) es c.loop-i.i past c.loop-i.invariant)
