use Rattle.std.proofs.Common.{[], ◌∷◌, ◌++◌, take, sym, ap, subst, ◌∙◌}
use Rattle.std.proofs.lemmas.List.{take_more}
use Rattle.expr_pairs.specs.Places.{AreNoted, key_hash}
use Rattle.expr_pairs.proofs.Noting.{noted_none}
use Rattle.expr_pairs.proofs.Positions.{distinct_until}
use Rattle.expr_pairs.proofs.noted.places_of.Goals as goal

pub loop-at-init : goal.loop-at-init
loop-at-init g c = noted_none _ c.new-places.result c.new-places.ensures.empty

pub note-requires-clause-distinct : goal.note-requires-clause-distinct
note-requires-clause-distinct g c = distinct_until g.K.PartialEq.eq g.met.K.Eq.laws c.args.keys.now c.loop-at.at c.index-keys-at.result c.requires c.loop-at-test.true c.index-keys-at.is

pub note-requires-clause-noted : goal.note-requires-clause-noted
note-requires-clause-noted g c = c.loop-at.invariant

pub loop-at-preserved : goal.loop-at-preserved
loop-at-preserved g c =
    subst (λ ks. AreNoted (λ k. key_hash (g.K.Hash.hash_input k)) ks c.note.new.places)
    (ap (λ x. take c.loop-at.at c.args.keys.now ++ x ∷ []) c.index-keys-at.is ∙ sym (take_more c.args.keys.now c.loop-at.at c.index-keys-at.result c.loop-at-test.true))
    c.in_ok-note.ensures
