use Rattle.std.proofs.Common.{refl}
use Rattle.expr_predicates.proofs.Noting.{same_run}
use Rattle.expr_predicates.proofs.run.PredicateRun.next_plain.Goals as goal

pub returns-in_err-item-clause-none : goal.returns-in_err-item-clause-none
returns-in_err-item-clause-none c = λ _. same_run _ c.args.self.now c.in_err-item.ensures.item refl refl
