use Rattle.std.proofs.Common.{◌≡◌, ◌∷◌, [], None, subst, sym}
use Rattle.expr_exchange.specs.Maps.{AreSplit, text_pairs}
use Rattle.expr_exchange.specs.declared.map_pairs.MapPairs.{MapPairs}
use Rattle.expr_exchange.proofs.InTurn.{no_texts-more}
use Rattle.expr_exchange.proofs.map_pairs.MapPairs.and.Goals as goal

pub returns-in_ok-push-in-Keyed-clause-split : goal.returns-in_ok-push-in-Keyed-clause-split
returns-in_ok-push-in-Keyed-clause-split c =
    subst (λ pairs. text_pairs pairs ≡ None) (sym c.in_ok-push-in-Keyed.ensures.items)
    (no_texts-more c.in-Keyed.keyed.items ((c.args.key, c.args.value) ∷ []) (subst (λ (pairs : MapPairs). AreSplit pairs) c.in-Keyed.is c.requires))
