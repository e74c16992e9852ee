use Rattle.std.proofs.Common.{string_bytes}
use Rattle.std.proofs.lemmas.Map.Text.{hash_map_updates_text}
use Rattle.expr.specs.Hosted.{function_named}
use Rattle.expr.proofs.Placed.{placed}
use Rattle.expr.proofs.environment.Environment.add_function.Goals as goal

pub returns-clause-added : goal.returns-clause-added
returns-clause-added g c = λ key.
    placed (λ r. r.function) (string_bytes c.in_ok-name.name) c.args.name.now key _ _ (function_named c.args.self.now key) (
    hash_map_updates_text (string_bytes c.in_ok-name.name) c.args.self.now.functions c.insert.new.self _ c.in_ok-insert.ensures.updates key
    ) c.in_ok-name.ensures.ok
