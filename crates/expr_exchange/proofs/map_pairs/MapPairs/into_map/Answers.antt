use Rattle.std.proofs.Common.{◌≡◌, Some, [], map, string_bytes, subst, sym}
use Rattle.std.proofs.lemmas.Result.{IfOk-weaker}
use Rattle.expr_exchange.specs.Maps.{map_of_pairs, pairs_of}
use Rattle.expr_exchange.specs.declared.map_pairs.MapPairs.{MapPairs}
use Rattle.expr_exchange.proofs.InTurn.{map_named}
use Rattle.expr_value.specs.Names.{put_all}
use Rattle.expr_value.specs.declared.value.Value as values
use Rattle.expr_exchange.proofs.map_pairs.MapPairs.into_map.Goals as goal

pub returns-in-Named-clause-ok : goal.returns-in-Named-clause-ok
returns-in-Named-clause-ok c =
    IfOk-weaker c.from_pairs.result (λ made. made ≡ values.Map (put_all [] (map (λ p. (string_bytes p.0, p.1)) c.in-Named.names.items))) (λ made. map_of_pairs (pairs_of c.args.self) ≡ Some made)
    (λ made is. subst (λ (pairs : MapPairs). map_of_pairs (pairs_of pairs) ≡ Some made) (sym c.in-Named.is) (map_named c.in-Named.names.items made is)) c.from_pairs.ensures.ok
