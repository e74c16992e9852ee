use Rattle.expr_records.specs.RecordRuns.{NameEnds}
use Rattle.expr_records.proofs.RunEnding.{binds_passed}
use Rattle.expr_records.proofs.names.bind.Goals as goal

pub returns-in_err-value : goal.returns-in_err-value
returns-in_err-value g c =
    binds_passed (NameEnds c.args.limits (g.H.Functions.host c.args.host.now) c.args.code.now) c.args.name.now c.args.names.now c.from_residual.result c.in_err-value.field-0.0 c.from_residual.ensures.1 c.in_err-value.ensures
