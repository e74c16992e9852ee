use Rattle.std.proofs.Common.{sym, ◌∙◌}
use Rattle.std.proofs.lemmas.Option.{none-some}
use Rattle.expr_pairs.specs.Places.{key_hash}
use Rattle.expr_pairs.proofs.Noting.{noted_nowhere, noted_under}
use Rattle.expr_pairs.proofs.Positions.{distinct_before, none_before}
use Rattle.expr_pairs.proofs.noted.note.Goals as goal

pub spot_of-requires-clause-distinct : goal.spot_of-requires-clause-distinct
spot_of-requires-clause-distinct g c = distinct_before g.K.PartialEq.eq g.met.K.Eq.laws c.args.before.now c.args.key.now c.requires.distinct

pub returns-in_ok-insert-in-Free : goal.returns-in_ok-insert-in-Free
returns-in_ok-insert-in-Free g c =
    let written = c.in_ok-insert-in-Free.ensures.updates in
    noted_under (λ k. key_hash (g.K.Hash.hash_input k)) c.args.before.now c.args.key.now c.args.places.now c.insert.new.self c.in-Free.slot written.0 c.requires.noted c.in-Free.ensures.1 written.1

pub returns-in-At : goal.returns-in-At
returns-in-At g c = absurd (none-some _ (sym (none_before g.K.PartialEq.eq g.met.K.Eq.laws c.args.before.now c.args.key.now c.requires.distinct) ∙ c.in-At.ensures))

pub returns-in-Crowded : goal.returns-in-Crowded
returns-in-Crowded g c = noted_nowhere (λ k. key_hash (g.K.Hash.hash_input k)) c.args.before.now c.args.key.now c.args.places.now c.requires.noted c.in-Crowded.ensures.1
