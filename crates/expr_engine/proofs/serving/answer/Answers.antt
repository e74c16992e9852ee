use Rattle.std.proofs.Common.{◌≡◌, ℕ, List, arith, subst}
use Rattle.std.proofs.lemmas.Grind.{common_steps}
use Rattle.expr_engine.specs.Served.{text_in_room}
use Rattle.expr_engine.proofs.serving.answer.Goals as goal

pub returns-clause-shown : goal.returns-clause-shown
returns-clause-shown c = record {
  count = grind (arith, common_steps);
  written = subst (λ (text : List ℕ). c.copy_into.new.room ≡ text_in_room text c.args.call.now.room.now) c.shown_bytes-text.ensures c.copy_into.ensures;
}
