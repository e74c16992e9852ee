use Rattle.std.proofs.Common.{◌∙◌, ap, bytes_eq, cond, string_bytes, true}
use Rattle.std.proofs.lemmas.Map.Text.{hash_set_updates_text}
use Rattle.expr_stops.specs.Stops.{is_named}
use Rattle.expr_stops.proofs.names.StopNames.add.Goals as goal

pub returns-clause-added : goal.returns-clause-added
returns-clause-added c = λ key.
    hash_set_updates_text (string_bytes c.in_ok-name.name) c.args.self.now.names c.insert_full.new.self true c.in_ok-insert_full.ensures.updates key
    ∙ ap (λ n. cond (bytes_eq n key) true (is_named c.args.self.now key)) c.in_ok-name.ensures.ok
