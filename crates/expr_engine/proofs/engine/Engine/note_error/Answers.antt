use Rattle.std.proofs.Common.{ℕ, Option, IfOk, subst}
use Rattle.expr_engine.specs.Faults.{IsNotedAt}
use Rattle.expr_engine.proofs.engine.Engine.note_error.Goals as goal

pub returns-in-Some-clause-noted : goal.returns-in-Some-clause-noted
returns-in-Some-clause-noted c = subst (λ (byte : Option ℕ). IfOk c.note_fault.result (IsNotedAt byte c.args.text.now)) c.in-Some.ensures c.note_fault.ensures.noted
