use Rattle.std.proofs.Common.{◌≡◌, ◌+◌, length, Some, sym, ap, ◌∙◌, subst, not, false}
use Rattle.std.specs.Option.{is_some, unwrap_or}
use Rattle.expr_value.specs.Values.{truth_of}
use Rattle.expr_predicates.specs.Folds.{first_place, refuses_answer}
use Rattle.expr_predicates.specs.Accumulators.{ScalarRepresents}
use Rattle.expr_predicates.proofs.Accumulating.{count_push, place_push}
use Rattle.expr_predicates.proofs.scalar_accumulator.ScalarAccumulator.note.Goals as goal

pub returns-in-One-clause-noted : goal.returns-in-One-clause-noted
returns-in-One-clause-noted c = λ _ t rs item h a.
    let g = subst (λ s. ScalarRepresents s t rs) c.in-One.is h in
    let first = ap (λ u. first_place u + length rs) g.0 in (
      (g.0, count_push c.in-One.count c.count_if.result c.args.asked rs (item, c.args.answer.now) c.is_true-in-One.result c.requires (a ∙ first) g.1 (sym c.is_true-in-One.ensures) c.count_if.ensures),
      ap (λ u. refuses_answer u c.args.answer.now) g.0,
    )

pub returns-in-FindIndex-clause-noted : goal.returns-in-FindIndex-clause-noted
returns-in-FindIndex-clause-noted c = λ _ t rs item h a.
    let g = subst (λ s. ScalarRepresents s t rs) c.in-FindIndex.is h in
    let first = ap (λ u. first_place u + length rs) g.0 in (
      (g.0, place_push c.in-FindIndex.found c.found_if.result c.args.asked rs (item, c.args.answer.now) c.is_true-in-FindIndex.result (a ∙ first) g.1 (sym c.is_true-in-FindIndex.ensures) c.found_if.ensures),
      ap (λ u. refuses_answer u c.args.answer.now) g.0,
    )

pub returns-in-FindLastIndex-clause-noted : goal.returns-in-FindLastIndex-clause-noted
returns-in-FindLastIndex-clause-noted c = λ _ t rs item h a.
    let g = subst (λ s. ScalarRepresents s t rs) c.in-FindLastIndex.is h in
    let first = ap (λ u. first_place u + length rs) g.0 in (
      (g.0, place_push c.in-FindLastIndex.found c.found_if-in-FindLastIndex.result c.args.asked rs (item, c.args.answer.now) c.is_true-in-FindLastIndex.result (a ∙ first) g.1 (sym c.is_true-in-FindLastIndex.ensures) c.found_if-in-FindLastIndex.ensures),
      ap (λ u. refuses_answer u c.args.answer.now) g.0,
    )

pub returns-in-Some-clause-noted : goal.returns-in-Some-clause-noted
returns-in-Some-clause-noted c = λ _ t rs item h a.
    let g = subst (λ s. ScalarRepresents s t rs) c.in-Count.is h in
    let first = ap (λ u. first_place u + length rs) g.0 in
    let is : truth_of c.args.answer.now ≡ Some c.in-Some.truth = sym c.as_bool.ensures ∙ c.in-Some.is in (
      (g.0, count_push c.in-Count.count c.count_if-in-Some.result c.args.asked rs (item, c.args.answer.now) c.in-Some.truth c.requires (a ∙ first) g.1 (ap (λ o. unwrap_or o false) is) c.count_if-in-Some.ensures),
      ap (λ u. refuses_answer u c.args.answer.now) g.0 ∙ ap (λ o. not (is_some o)) is,
    )
