use Rattle.std.proofs.Common.{refl}
use Rattle.expr_machine.proofs.Refused.{limits_refused}
use Rattle.expr_error.specs.declared.error.Error.TheVariants.{MemoryError}
use Rattle.expr_machine.proofs.kept.ReusableMachine.execute_limited_among.Goals as goal

pub returns-in_err-lists-clause-code : goal.returns-in_err-lists-clause-code
returns-in_err-lists-clause-code g c = limits_refused _ _ _ _ c.from_residual.result MemoryError c.from_residual.ensures.1 refl
