use Rattle.std.proofs.Common.{refl}
use Rattle.expr_machine.proofs.Refused.{limits_refused}
use Rattle.expr_error.specs.declared.error.Error.TheVariants.{MemoryError}
use Rattle.expr_machine.proofs.kept.ReusableMachine.execute_used.Goals as goal

pub returns-in-Err-clause-code : goal.returns-in-Err-clause-code
returns-in-Err-clause-code g c = limits_refused _ _ _ _ _ MemoryError refl refl
