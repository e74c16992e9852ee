use Rattle.std.proofs.Common.{refl, sym, ap, ◌∙◌}
use Rattle.expr_arguments.specs.Cow.{cow_value}
use Rattle.expr_predicates.specs.Calls.{reduce_from_first}
use Rattle.expr_predicates.specs.Folds.{reducing}
use Rattle.expr_predicates.proofs.FoldStarts.{same_ok}
use Rattle.expr_predicates.proofs.run.PredicateRun.from_first.Goals as goal

pub returns-in-Some-clause-begun : goal.returns-in-Some-clause-begun
returns-in-Some-clause-begun c =
    let x = cow_value c.in-Some.first in
    let whole = sym c.forward-left.ensures.items ∙ c.in-Some.ensures.item in
    let acc = c.in_ok-acc-in-Some.acc in
    (reducing x 1, ap reduce_from_first whole, record { asked = refl; gathered = (x, 1, refl, same_ok acc c.held.result (sym c.in_ok-acc-in-Some.ensures.answer) ∙ c.held.ensures) })
