use Rattle.std.proofs.Common.{◌≡◌, refl}
use Rattle.expr_engine.specs.Engines.{waiting_inputs}
use Rattle.expr_engine.proofs.Turned.{found_ends, replied_by, run_meant}
use Rattle.expr_exchange.specs.Cursor.{part_of}
use Rattle.expr_stops.specs.Stops.{replies_of}
use Rattle.expr_stops.specs.declared.replies.Reply.TheVariants as reply
use Rattle.expr_engine.proofs.engine.Engine.reply.Goals as goal

pub returns-clause-replied : goal.returns-clause-replied
returns-clause-replied c = λ waits found.
    replied_by (λ r. r ≡ reply.Value c.args.value) (waiting_inputs c.args.self.now) c.args.self.now.waits c.answer.new.self c.go_on.new.self.waits (reply.Value c.args.value) c.go_on.result (part_of c.go_on.new.self.answer) found
    c.in_ok-answer.ensures.given refl (record { program = c.go_on.ensures.run.program; environment = c.go_on.ensures.run.environment; context = c.go_on.ensures.run.context }) c.go_on.ensures.given c.go_on.ensures.ended (c.go_on.ensures.stops c.in_ok-answer.ensures.given.asked) c.go_on.ensures.used

pub returns-clause-found : goal.returns-clause-found
returns-clause-found c = λ waits found. found_ends (waiting_inputs c.args.self.now) (replies_of c.answer.new.self) c.go_on.result (part_of c.go_on.new.self.answer) found c.go_on.ensures.ended

pub returns-clause-meant : goal.returns-clause-meant
returns-clause-meant c = λ waits found. run_meant (waiting_inputs c.args.self.now) (replies_of c.answer.new.self) c.go_on.result (part_of c.go_on.new.self.answer) c.go_on.ensures.ended
