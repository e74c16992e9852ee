use Rattle.std.proofs.Common.{sym, ap, subst}
use Rattle.expr_value.specs.declared.value.Value as value
use Rattle.expr_predicates.specs.Noting.{Gathers}
use Rattle.expr_predicates.specs.Plains.{plain_value}
use Rattle.expr_predicates.specs.declared.run.Accumulator.TheVariants as accumulator
use Rattle.expr_predicates.proofs.Noting.{scalar_gathers, values_gather}
use Rattle.expr_predicates.proofs.run.Accumulator.note.Goals as goal

pub returns-in-Bool : goal.returns-in-Bool
returns-in-Bool c =
    let new = accumulator.Scalar c.note_truth.new.self in
    let was = scalar_gathers c.args.place c.note_truth.result c.in-Scalar.noted c.note_truth.new.self (value.Bool c.in-Bool.truth) c.note_truth.ensures in
    subst (λ a. Gathers c.args.place c.note_truth.result a new (plain_value c.args.answer)) (sym c.in-Scalar.is)
    (subst (λ v. Gathers c.args.place c.note_truth.result (accumulator.Scalar c.in-Scalar.noted) new v) (sym (ap plain_value c.in-Bool.is)) was)

pub returns-in-Values : goal.returns-in-Values
returns-in-Values c =
    subst (λ a. Gathers c.args.place c.note.result a (accumulator.Values c.note.new.self) (plain_value c.args.answer)) (sym c.in-Values.is)
    (values_gather c.args.place c.note.result c.in-Values.kept c.note.new.self (plain_value c.args.answer) c.note.ensures)
