use Rattle.std.proofs.Common.{◌≡◌, ◌<◌, [], ◌++◌, codes, map as each, length, sym, ap, ◌∙◌, arith, rules}
use Rattle.std.proofs.lemmas.List.{length-map, take_all}
use Rattle.std.proofs.lemmas.Option.{get_or_from_slice_get}
use Rattle.std.proofs.Output.{has_written_append, has_written_of_eq}
use Rattle.expr_pairs.proofs.Beside.{keyed_at}
use Rattle.expr_value.proofs.Joined.{joined_next}
use Rattle.expr_value.specs.Values.{joined_text}
use Rattle.expr_schema.specs.KindView.{kind_view}
use Rattle.expr_schema.specs.declared.kind.Fields.{out-Fields}
use Rattle.expr_schema.proofs.Shown.{comma_at, shown_closed, shown_field, shown_open, shown_rest}
use Rattle.expr_schema.proofs.display.+show.Goals as goal

pub show_fields-loop-i-preserved : goal.show_fields-loop-i-preserved
show_fields-loop-i-preserved g t c = λ plain.
    let i = c.loop-i.i in
    let es = (out-Fields c.args.fields.now).named in
    let within : i < length es = omega (arith, c.loop-i-test.true, ap length c.values-entries.ensures, length-map es (λ e. e.1)) in
    let at = keyed_at c.keys-names.result.now c.values-entries.result.now es i c.index-names-i.result c.index-entries-i.result c.keys-names.ensures.keys c.values-entries.ensures within c.index-names-i.is c.index-entries-i.is in
    let sofar = c.loop-i.invariant plain in
    let comma = c.show_comma.ensures sofar.plain (search rules) in
    let shown = c.show_field.ensures comma.plain (search rules) in
    has_written_of_eq _ _ _ _ _ (joined_next shown_field [] (codes ", ") es i (c.index-names-i.result, c.index-entries-i.result) within (sym (get_or_from_slice_get es i _ _ at)))
    (has_written_append _ _ _ _ _ _ (has_written_append _ _ _ _ _ _ sofar comma) shown)

pub show_fields-returns-in-None : goal.show_fields-returns-in-None
show_fields-returns-in-None g t c = λ plain ok.
    let es = (out-Fields c.args.fields.now).named in
    let all = take_all c.loop-i.i es (omega (arith, c.loop-i-test.false, ap length c.values-entries.ensures, length-map es (λ e. e.1))) in
    has_written_of_eq _ _ _ _ _ (ap (λ l. joined_text (codes ", ") (each shown_field l)) all ∙ shown_closed c.args.fields.now c.in-None.is) (c.loop-i.invariant plain)

pub show_fields-returns-in_ok-show_comma-in-Some : goal.show_fields-returns-in_ok-show_comma-in-Some
show_fields-returns-in_ok-show_comma-in-Some g t c = λ plain ok.
    let f = c.args.fields.now in
    let es = (out-Fields f).named in
    let n = length c.values-entries.result.now in
    let k = c.in-Some.kind in
    let many : n ≡ length es = ap length c.values-entries.ensures ∙ length-map es (λ e. e.1) in
    let all = take_all c.loop-i.i es (omega (arith, c.loop-i-test.false, many)) in
    let sofar = c.loop-i.invariant plain in
    let comma = c.show_comma-in-Some.ensures sofar.plain (search rules) in
    let rest = c.show_others.ensures comma.plain ok in
    has_written_of_eq _ _ _ _ _ (
    ap (λ l. (joined_text (codes ", ") (each shown_field l) ++ comma_at n) ++ shown_rest (kind_view c.get.result.now)) all
    ∙ ap (λ j. (joined_text (codes ", ") (each shown_field es) ++ comma_at n) ++ shown_rest (kind_view j)) c.get.ensures ∙ shown_open f k c.in-Some.is n many
    ) (has_written_append _ _ _ _ _ _ (has_written_append _ _ _ _ _ _ sofar comma) rest)
