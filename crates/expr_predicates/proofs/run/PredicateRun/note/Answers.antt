use Rattle.std.proofs.Common.{refl}
use Rattle.expr_predicates.specs.Plains.{plain_value}
use Rattle.expr_predicates.proofs.Noting.{run_notes}
use Rattle.expr_predicates.proofs.run.PredicateRun.note.Goals as goal

pub returns-clause-noted : goal.returns-clause-noted
returns-clause-noted c =
    run_notes c.args.self.now _ (plain_value c.args.answer) c.saturating_sub-place.result refl refl c.saturating_sub-place.ensures c.note.result c.note.ensures
