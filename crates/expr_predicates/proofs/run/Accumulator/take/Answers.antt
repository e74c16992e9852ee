use Rattle.std.proofs.Common.{◌≡◌, ◌+◌, List, [], ◌∷◌, ◌++◌, length, false, subst}
use Rattle.expr_predicates.specs.Accumulators.{Represents, RepresentsRest}
use Rattle.expr_predicates.specs.Folds.{Fold, ItemAnswer, first_place, refuses_answer}
use Rattle.expr_predicates.specs.declared.run.Accumulator.TheVariants as accumulator
use Rattle.expr_predicates.proofs.Accumulating.{if_ok}
use Rattle.expr_predicates.proofs.run.Accumulator.take.Goals as goal

pub returns-in-Scalar-clause-gathered : goal.returns-in-Scalar-clause-gathered
returns-in-Scalar-clause-gathered c =
    let Q : Unit {0} → Type 0 =
    λ u. (t : Fold) (rs : List ItemAnswer) → RepresentsRest c.args.self.now t rs → c.args.place ≡ first_place t + length rs
    → Represents (accumulator.Scalar c.take.new.self) t (rs ++ (c.args.item, c.args.answer) ∷ []) × (refuses_answer t c.args.answer ≡ false) in
    if_ok {Q = Q} c.take.result c.take.ensures.noted (λ u p t rs h a. p t rs c.args.item (subst (λ s. RepresentsRest s t rs) c.in-Scalar.is h) a)
