use Rattle.std.proofs.Common.{◌≡◌, ◌<◌, ◌≤◌, true, false, None, length, refl, sym, ap, ◌∙◌, subst, arith}
use Rattle.std.proofs.lemmas.Cmp.{nat_list_eq_equiv}
use Rattle.std.proofs.lemmas.List.{length-map}
use Rattle.std.proofs.lemmas.Map.Entries.{lookup_from_place}
use Rattle.std.proofs.lemmas.Option.{get_or_from_slice_get}
use Rattle.expr_value.specs.Names.{find}
use Rattle.expr_pairs.proofs.Beside.{keyed_at}
use Rattle.expr_schema.specs.Kinds.{Found, HasKind}
use Rattle.expr_schema.specs.KindView.{kind_view}
use Rattle.expr_schema.specs.declared.kind.Fields.{out-Fields}
use Rattle.expr_schema.specs.declared.kind.FieldKind.{out-FieldKind}
use Rattle.expr_schema.proofs.Lists.{Each-more, Each-done}
use Rattle.expr_schema.proofs.Standing.{Given, present, present_false, required_stand, entry_at}
use Rattle.expr_schema.proofs.admits.required_stand.Goals as goal
use Rattle.expr_schema.proofs.admits.required_stand.Goals.{else-entries-i-via-then-entries-i+else-lacks, else-entries-i-via-else-entries-i}

pub returns-then-lacks : goal.returns-then-lacks
returns-then-lacks c =
    let es = (out-Fields c.args.fields.now).named in
    let i = c.loop-i.i in
    let k = c.index-names-i.result in
    let g = c.index-entries-i.result in
    let within : i < length es = omega (arith, c.loop-i-test.true, ap length c.values-entries.ensures, length-map es (λ e. e.1)) in
    let at = keyed_at c.keys-names.result.now c.values-entries.result.now es i k g c.keys-names.ensures.keys c.values-entries.ensures within c.index-names-i.is c.index-entries-i.is in
    let own = lookup_from_place nat_list_eq_equiv es i k g c.keys-names.ensures.distinct at in (
      λ t. absurd (cc t),
      λ h. absurd (subst (λ b. Found b (λ v. HasKind (kind_view (out-FieldKind g).kind) v) None) (ap (λ f. (out-FieldKind f).required) c.index-entries-i.is ∙ c.if-entries-i.true) ((entry_at c.args.fields.now k g own None).0 (h k (c.lacks.ensures.0 c.if-lacks.true)))),
    )

pub loop-i-preserved : goal.loop-i-preserved
loop-i-preserved c =
    let es = (out-Fields c.args.fields.now).named in
    let m = c.args.map.now in
    let i = c.loop-i.i in
    let k = c.index-names-i.result in
    let g = c.index-entries-i.result in
    let within : i < length es = omega (arith, c.loop-i-test.true, ap length c.values-entries.ensures, length-map es (λ e. e.1)) in
    let at = keyed_at c.keys-names.result.now c.values-entries.result.now es i k g c.keys-names.ensures.keys c.values-entries.ensures within c.index-names-i.is c.index-entries-i.is in
    Each-more (Given c.args.fields.now m) es i (k, g) within (sym (get_or_from_slice_get es i _ _ at)) c.loop-i.invariant (
    elim c.else-entries-i.branch [
      | else-entries-i-via-then-entries-i+else-lacks w ↦ present (out-FieldKind g).required (find k m) (λ e. let q : true ≡ false = sym (w.lacks.ensures.1 e) ∙ w.if-lacks.false in absurd (cc q))
      | else-entries-i-via-else-entries-i w ↦ present_false (out-FieldKind g).required (find k m) (ap (λ f. (out-FieldKind f).required) c.index-entries-i.is ∙ w.if-entries-i.false)
    ]
    )

pub returns : goal.returns
returns c =
    let es = (out-Fields c.args.fields.now).named in
    let past : length es ≤ c.loop-i.i = omega (arith, c.loop-i-test.false, ap length c.values-entries.ensures, length-map es (λ e. e.1)) in
    (λ t. required_stand c.args.fields.now c.args.map.now (Each-done (Given c.args.fields.now c.args.map.now) es c.loop-i.i past c.loop-i.invariant), λ h. refl)
