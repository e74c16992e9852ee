use Rattle.expr_exchange.specs.Builder.{NoContext, values_of}
use Rattle.expr_exchange.proofs.Refused.{passed_so}
use Rattle.expr_engine.proofs.filling.built_context.Goals as goal

pub returns-in_err-context-clause-why : goal.returns-in_err-context-clause-why
returns-in_err-context-clause-why c =
    passed_so c.from_residual.result c.in_err-context.field-0.0 (NoContext (values_of c.args.engine.now.built)) c.from_residual.ensures.1 c.in_err-context.ensures.refused
