use Rattle.std.proofs.Common.{◌≡◌, ◌≢◌, ◌∙◌, None, Some, ap, rules, sym}
use Rattle.std.proofs.lemmas.Iterator.Adapters.{YieldsList-from_vec}
use Rattle.std.proofs.lemmas.Iterator.Consumers.{YieldsList-end}
use Rattle.std.proofs.lemmas.List.{map-id}
use Rattle.std.proofs.lemmas.Result.{IfErr-weaker, IfOk-weaker}
use Rattle.expr_error.specs.ErrorKind.{error_kind, memory}
use Rattle.expr_exchange.specs.Maps.{map_in_turn, map_of_pairs, pairs_of}
use Rattle.expr_exchange.proofs.InTurn.{in_turn_more, turned_back}
use Rattle.expr_exchange.proofs.map_pairs.map_of.Goals as goal

pub loop-value-preserved : goal.loop-value-preserved
loop-value-preserved c = record {
  so_far =
      in_turn_more (pairs_of c.loop-value.pairs) (pairs_of c.in_ok-pairs-in-Some-take.pairs) c.in-Some-take.key c.in-Some.value c.loop-value.key c.take.new.self c.loop-value.yielded
      c.loop-value.invariant.so_far (sym c.take.ensures.value ∙ c.in-Some-take.is) c.take.ensures.after c.in_ok-pairs-in-Some-take.ensures.ok;
  split = c.in_ok-pairs-in-Some-take.ensures.split;
}

pub returns-clause-ok : goal.returns-clause-ok
returns-clause-ok c =
    let values = c.args.values.items in
    let pairs = pairs_of c.loop-value.pairs in
    let end = YieldsList-end (YieldsList-from_vec {s = c.into_iter-value-iterator.result} values (search rules) (search rules)) c.loop-value.yielded c.loop-value.value-iterator c.loop-value.yielded_by c.next.result c.next.new.self c.in-None.is c.next.ensures.steps in
    let same : map_in_turn values ≡ map_of_pairs pairs =
    ap map_in_turn (sym (sym (map-id c.loop-value.yielded) ∙ end.0) ∙ c.loop-value.invariant.so_far) ∙ ap map_of_pairs (turned_back pairs c.loop-value.key) in
    IfOk-weaker c.into_map.result (λ made. map_of_pairs pairs ≡ Some made) (λ made. map_in_turn values ≡ Some made) (λ made is. same ∙ is) c.into_map.ensures.ok

pub returns-clause-refused : goal.returns-clause-refused
returns-clause-refused c =
    let values = c.args.values.items in
    let pairs = pairs_of c.loop-value.pairs in
    let end = YieldsList-end (YieldsList-from_vec {s = c.into_iter-value-iterator.result} values (search rules) (search rules)) c.loop-value.yielded c.loop-value.value-iterator c.loop-value.yielded_by c.next.result c.next.new.self c.in-None.is c.next.ensures.steps in
    let same : map_in_turn values ≡ map_of_pairs pairs =
    ap map_in_turn (sym (sym (map-id c.loop-value.yielded) ∙ end.0) ∙ c.loop-value.invariant.so_far) ∙ ap map_of_pairs (turned_back pairs c.loop-value.key) in
    IfErr-weaker c.into_map.result (λ e. error_kind e ≢ memory → map_of_pairs pairs ≡ None) (λ e. error_kind e ≢ memory → map_in_turn values ≡ None) (λ e none other. same ∙ none other) c.into_map.ensures.refused
