use Rattle.std.proofs.Common.{fold, ap, ◌∙◌}
use Rattle.std.specs.Hash.DefaultHasher as sip
use Rattle.expr_pairs.specs.Places.{key_hash}
use Rattle.expr_pairs.proofs.places.key_hash.Goals as goal

pub returns : goal.returns
unfolding key_hash
returns g c = c.finish.ensures ∙ ap sip.finish (c.hash.ensures ∙ ap (λ s. fold sip.write s (g.Q.Hash.hash_input c.args.key.now)) c.new-state.ensures)
