use Rattle.std.proofs.Common.{take}
use Rattle.expr_pairs.specs.Places.{AreNoted, key_hash}
use Rattle.expr_pairs.proofs.noted.places_of.Given as goal

abbrev pub invariant-loop-at : goal.invariant-loop-at
invariant-loop-at g l = AreNoted (λ k. key_hash (g.K.Hash.hash_input k)) (take l.at l.keys) l.places
