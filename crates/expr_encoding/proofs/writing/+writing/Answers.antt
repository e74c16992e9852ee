use Rattle.std.proofs.Common.{◌≡◌, ℕ, ◌<◌, ◌+◌, List, None, Some, drop, length, map, slice_get, sym, ap, ◌∙◌, arith}
use Rattle.std.specs.Option.{option_and_then}
use Rattle.std.proofs.lemmas.List.{length-map}
use Rattle.std.proofs.lemmas.Result.{err_from_is_err_and}
use Rattle.serde_json.specs.Data.{Data, Members, put}
use Rattle.serde_json.specs.View.{view, members_view}
use Rattle.expr_value.specs.declared.value.Value.{Value}
use Rattle.expr_pairs.proofs.Beside.{keyed_at}
use Rattle.expr_encoding.specs.Writing.{data_of, members_all, pair_data}
use Rattle.expr_encoding.proofs.Rising.{left_at}
use Rattle.expr_encoding.proofs.writing.+writing.Goals as goal

-- the pair at an index goes first of those that are left
module _ (es : List (List ℕ × Value)) (i : ℕ) (name : List ℕ) (v : Value) (done : Members) (at : slice_get es i ≡ Some (name, v)) where
  goes_on : members_all (map pair_data (drop i es)) done ≡ option_and_then (λ d. members_all (map pair_data (drop (i + 1) es)) (put name d done)) (data_of v)
  goes_on = ap (λ ps. members_all (map pair_data ps) done) (left_at es i (name, v) at)

  goes_on_with : (d : Data) → data_of v ≡ Some d → members_all (map pair_data (drop i es)) done ≡ members_all (map pair_data (drop (i + 1) es)) (put name d done)
  goes_on_with d is = goes_on ∙ ap (option_and_then (λ e. members_all (map pair_data (drop (i + 1) es)) (put name e done))) is

  stops : data_of v ≡ None → members_all (map pair_data (drop i es)) done ≡ None
  stops is = goes_on ∙ ap (option_and_then (λ e. members_all (map pair_data (drop (i + 1) es)) (put name e done))) is

pub members_data-returns-in_err-json-clause-err : goal.members_data-returns-in_err-json-clause-err
members_data-returns-in_err-json-clause-err t c =
    let i = c.loop-i.i in
    let es = c.args.pairs.now in
    let v = c.index-values-i.result in
    let within : i < length es = omega (arith, c.loop-i-test.true, ap length c.values-values.ensures, length-map es (λ e. e.1)) in
    let at : slice_get es i ≡ Some (c.index-names-i.result, v) =
    keyed_at c.keys-names.result.now c.values-values.result.now es i c.index-names-i.result v c.keys-names.ensures.keys c.values-values.ensures within c.index-names-i.is c.index-values-i.is in
    let p = err_from_is_err_and c.from_residual.result c.from_residual.ensures.1 in
    rw (p.1, p.2) (λ other.
    let r = c.in_err-json.ensures.err other in
    (r.0, c.loop-i.invariant ∙ stops es i c.index-names-i.result v (members_view c.loop-i.members.entries) at r.1))

pub members_data-loop-i-preserved : goal.members_data-loop-i-preserved
members_data-loop-i-preserved t c =
    let i = c.loop-i.i in
    let es = c.args.pairs.now in
    let v = c.index-values-i.result in
    let within : i < length es = omega (arith, c.loop-i-test.true, ap length c.values-values.ensures, length-map es (λ e. e.1)) in
    let at : slice_get es i ≡ Some (c.index-names-i.result, v) =
    keyed_at c.keys-names.result.now c.values-values.result.now es i c.index-names-i.result v c.keys-names.ensures.keys c.values-values.ensures within c.index-names-i.is c.index-values-i.is in
    let added = c.in_ok-put.ensures.ok ∙ ap (λ k. put k (view c.in_ok-json.json) (members_view c.loop-i.members.entries)) c.as_str-name.ensures in
    c.loop-i.invariant ∙ goes_on_with es i c.index-names-i.result v (members_view c.loop-i.members.entries) at (view c.in_ok-json.json) c.in_ok-json.ensures.ok
    ∙ ap (members_all (map pair_data (drop (i + 1) es))) (sym added)
