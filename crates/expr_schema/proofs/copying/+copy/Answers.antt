use Rattle.std.proofs.Common.{◌≡◌, ◌<◌, [], ◌∷◌, ◌++◌, length, take, bytes_eq, sym, ap, ◌∙◌, arith, rules}
use Rattle.std.proofs.lemmas.List.{length-map, take_all, take_more}
use Rattle.std.proofs.lemmas.Option.{get_or_from_slice_get}
use Rattle.indexmap.proofs.MapLemmas.{absent_from_lookup, insert_entry-absent}
use Rattle.indexmap.specs.IndexMap.{insert_entry}
use Rattle.expr_pairs.proofs.Beside.{keyed_at}
use Rattle.expr_schema.specs.declared.kind.Fields.{out-Fields}
use Rattle.expr_schema.proofs.Insertion.{fresh}
use Rattle.expr_schema.proofs.copying.+copy.Goals as goal

pub copy_named-loop-i-preserved : goal.copy_named-loop-i-preserved
copy_named-loop-i-preserved t c =
    let es = (out-Fields c.args.fields.now).named in
    let i = c.loop-i.i in
    let k = c.index-names-i.result in
    let g = c.index-entries-i.result in
    let within : i < length es = omega (arith, c.loop-i-test.true, ap length c.values-entries.ensures, length-map es (λ e. e.1)) in
    let at = keyed_at c.keys-names.result.now c.values-entries.result.now es i k g c.keys-names.ensures.keys c.values-entries.ensures within c.index-names-i.is c.index-entries-i.is in
    let same : c.in_ok-name.name ≡ k = search rules in
    c.in_ok-insert.ensures.ok ∙ (λ j. insert_entry bytes_eq (c.loop-i.invariant j) (same j) (c.in_ok-entry.ensures.ok j))
    ∙ insert_entry-absent bytes_eq k g (take i es) (absent_from_lookup (bytes_eq k) (take i es) (fresh es i k g c.keys-names.ensures.distinct at))
    ∙ ap (λ y. take i es ++ y ∷ []) (sym (get_or_from_slice_get es i _ _ at)) ∙ sym (take_more es i (k, g) within)

pub copy_named-returns-clause-ok : goal.copy_named-returns-clause-ok
copy_named-returns-clause-ok t c =
    let es = (out-Fields c.args.fields.now).named in
    c.loop-i.invariant ∙ take_all c.loop-i.i es (omega (arith, c.loop-i-test.false, ap length c.values-entries.ensures, length-map es (λ e. e.1)))
