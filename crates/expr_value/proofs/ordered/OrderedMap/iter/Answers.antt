use Rattle.std.proofs.Common.{subst, sym}
use Rattle.std.specs.Iterator.Adapters.{ZipsRuns, zip_second}
use Rattle.std.specs.Slice.Iter.{iter_steps}
use Rattle.expr_value.proofs.ordered.OrderedMap.iter.Goals as goal

pub returns-clause-runs : goal.returns-clause-runs
returns-clause-runs g c =
    subst (λ s. ZipsRuns (iter_steps {A = g.row.K.Denot}) (iter_steps {A = g.row.V.Denot}) s (zip_second c.zip.result) c.zip.result) (sym c.zip.ensures.first) c.zip.ensures.runs
