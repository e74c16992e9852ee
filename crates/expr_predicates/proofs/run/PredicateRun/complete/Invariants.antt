use Rattle.std.proofs.Common.{[]}
use Rattle.expr_predicates.specs.Accumulators.{RunRepresents, remaining_items, remaining_count}
use Rattle.expr_predicates.specs.Runs.{FoldMayReturn, AnswersItself}
use Rattle.expr_predicates.specs.Folds.{Fold}
use Rattle.expr_predicates.proofs.Turns.{Leads}
use Rattle.expr_predicates.proofs.run.PredicateRun.complete.Given as goal

abbrev pub invariant-loop-item : goal.invariant-loop-item
invariant-loop-item l = (t : Fold) → RunRepresents l.fn.self t [] → Leads AnswersItself (FoldMayReturn t AnswersItself (remaining_items l.fn.self) []) t l.run

abbrev pub decreases-loop-item : goal.decreases-loop-item
decreases-loop-item l = remaining_count l.run
