use Rattle.std.proofs.Common.{IfOk, string_bytes, subst, sym}
use Rattle.expr_engine.specs.Faults.{IsNotedAt, refused_byte}
use Rattle.expr_engine.specs.Served.{SaysWhy}
use Rattle.expr_exchange.specs.declared.host_error.HostError.{HostError}
use Rattle.expr_engine.proofs.Faulty.{on_ok}
use Rattle.expr_engine.proofs.engine.Engine.note.Goals as goal

pub returns-in-Language-clause-noted : goal.returns-in-Language-clause-noted
returns-in-Language-clause-noted c = subst (λ (refused : HostError). IfOk c.note_error.result (IsNotedAt (refused_byte refused) c.args.text.now)) (sym c.in-Language.is) c.note_error.ensures.noted

pub returns-in-Language-clause-said : goal.returns-in-Language-clause-said
returns-in-Language-clause-said c = on_ok c.note_error.result (subst (λ (refused : HostError). SaysWhy refused (string_bytes c.note_error.new.self.said)) (sym c.in-Language.is) tt)

pub returns-in-Misuse-clause-said : goal.returns-in-Misuse-clause-said
returns-in-Misuse-clause-said c = subst (λ (refused : HostError). SaysWhy refused (string_bytes c.sentence_of.result)) (sym c.in-Misuse.is) c.sentence_of.ensures
