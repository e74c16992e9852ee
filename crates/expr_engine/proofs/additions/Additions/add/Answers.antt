use Rattle.std.proofs.Common.{refl, string_bytes}
use Rattle.std.proofs.lemmas.Map.Text.{hash_map_updates_text}
use Rattle.expr_moment.proofs.Stored.{stored}
use Rattle.expr_engine.specs.Runs.{zone_added}
use Rattle.expr_engine.proofs.additions.Additions.add.Goals as goal

pub returns-clause-added : goal.returns-clause-added
returns-clause-added c = record {
  zone = record {
    zone = c.in_ok-zone.zone;
    has_name = c.in_ok-zone.ensures.name;
    has_rules = c.in_ok-zone.ensures.rules;
    stands = λ key.
        stored (string_bytes c.in_ok-name.name) c.args.name.now key _ _ (zone_added c.args.self.now key) (
        hash_map_updates_text (string_bytes c.in_ok-name.name) c.args.self.now.zones c.insert.new.self _ c.in_ok-insert.ensures.updates key
        ) c.in_ok-name.ensures.ok;
  };
  moment = refl;
  names = refl;
  versions = refl;
}
