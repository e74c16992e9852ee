use Rattle.std.proofs.Common.{◌≡◌, List, [], ◌∷◌, ◌++◌, false, sym, ap, ◌∙◌, subst, not}
use Rattle.std.specs.Option.{is_some}
use Rattle.expr_predicates.specs.Folds.{Fold, ItemAnswer, refuses_answer}
use Rattle.expr_predicates.specs.Accumulators.{ValuesRepresent, ValuesRepresentRest}
use Rattle.expr_predicates.specs.declared.value_accumulator.ValueAccumulator.TheVariants as value_accumulator
use Rattle.expr_predicates.proofs.Accumulating.{find_push, if_ok, keyed_push}
use Rattle.expr_predicates.proofs.value_accumulator.ValueAccumulator.take.Goals as goal

pub returns-in_ok-find_if-in-Find-clause-kept : goal.returns-in_ok-find_if-in-Find-clause-kept
returns-in_ok-find_if-in-Find-clause-kept c = λ t rs h.
    let g = subst (λ s. ValuesRepresentRest s t rs) c.in-Find.is h in (
      (g.0, find_push c.in-Find.found c.find_if.new.found rs (c.args.item, c.args.answer) c.is_true-in-Find.result g.1 (sym c.is_true-in-Find.ensures) c.in_ok-find_if-in-Find.ensures),
      ap (λ u. refuses_answer u c.args.answer) g.0,
    )

pub returns-in-GroupBy-clause-kept : goal.returns-in-GroupBy-clause-kept
returns-in-GroupBy-clause-kept c =
    let Q : Unit {0} → Type 0 =
    λ u. (t : Fold) (rs : List ItemAnswer) → ValuesRepresentRest c.args.self.now t rs
    → ValuesRepresent (value_accumulator.GroupBy c.put_beside.new.pairs) t (rs ++ (c.args.item, c.args.answer) ∷ []) × (refuses_answer t c.args.answer ≡ false) in
    if_ok {Q = Q} c.put_beside.result c.put_beside.ensures.ok (λ u k t rs h.
    let g = subst (λ s. ValuesRepresentRest s t rs) c.in-GroupBy.is h in (
      (g.0, k.2 ∙ keyed_push c.in-GroupBy.pairs.items rs c.args.item c.args.answer k.0 g.1 k.1),
      ap (λ u. refuses_answer u c.args.answer) g.0 ∙ ap (λ o. not (is_some o)) k.1,
    )
    )
