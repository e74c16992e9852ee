use Rattle.std.proofs.Common.{◌≡◌, ◌<◌, ◌≤◌, true, false, length, sym, ap, ◌∙◌, subst, arith}
use Rattle.std.proofs.lemmas.Cmp.{nat_list_eq_equiv}
use Rattle.std.proofs.lemmas.List.{length-map}
use Rattle.std.proofs.lemmas.Map.Entries.{lookup_from_place}
use Rattle.std.proofs.lemmas.Option.{get_or_from_slice_get}
use Rattle.expr_pairs.proofs.Beside.{keyed_at}
use Rattle.expr_value.specs.Names.{find}
use Rattle.expr_schema.specs.Kinds.{StandsAt}
use Rattle.expr_schema.specs.KindView.{fields_view}
use Rattle.expr_schema.specs.declared.kind.Fields.{out-Fields}
use Rattle.expr_schema.proofs.Contexts.{Supplied, supplied, supplied_stand}
use Rattle.expr_schema.proofs.Lists.{Each-more, Each-done}
use Rattle.expr_schema.proofs.schema.missing_mismatch.Goals as goal

pub returns-then-lacks_required : goal.returns-then-lacks_required
returns-then-lacks_required c = λ h.
    let f = c.args.fields.now in
    let m = c.args.context.now in
    let es = (out-Fields f).named in
    let i = c.loop-i.i in
    let k = c.index-names-i.result in
    let g = c.index-entries-i.result in
    let within : i < length es = omega (arith, c.loop-i-test.true, ap length c.values-entries.ensures, length-map es (λ e. e.1)) in
    let at = keyed_at c.keys-names.result.now c.values-entries.result.now es i k g c.keys-names.ensures.keys c.values-entries.ensures within c.index-names-i.is c.index-entries-i.is in
    let own = lookup_from_place nat_list_eq_equiv es i k g c.keys-names.ensures.distinct at in
    c.lacks_required.ensures.yes c.if-lacks_required.true (supplied f m k g own (subst (λ n. StandsAt (fields_view f) n (find n m)) c.at.ensures h))

pub loop-i-preserved : goal.loop-i-preserved
loop-i-preserved c =
    let f = c.args.fields.now in
    let m = c.args.context.now in
    let es = (out-Fields f).named in
    let i = c.loop-i.i in
    let k = c.index-names-i.result in
    let g = c.index-entries-i.result in
    let within : i < length es = omega (arith, c.loop-i-test.true, ap length c.values-entries.ensures, length-map es (λ e. e.1)) in
    let at = keyed_at c.keys-names.result.now c.values-entries.result.now es i k g c.keys-names.ensures.keys c.values-entries.ensures within c.index-names-i.is c.index-entries-i.is in
    Each-more (Supplied f m) es i (k, g) within (sym (get_or_from_slice_get es i _ _ at)) c.loop-i.invariant
    (c.lacks_required.ensures.no (λ t. let q : true ≡ false = sym t ∙ c.if-lacks_required.false in absurd (cc q)))

pub returns : goal.returns
returns c =
    let es = (out-Fields c.args.fields.now).named in
    let past : length es ≤ c.loop-i.i = omega (arith, c.loop-i-test.false, ap length c.values-entries.ensures, length-map es (λ e. e.1)) in
    supplied_stand c.args.fields.now c.args.context.now (Each-done (Supplied c.args.fields.now c.args.context.now) es c.loop-i.i past c.loop-i.invariant)
