use Rattle.std.proofs.Common.{rules, ◌≡◌, [], zip, sym, ap, ◌∙◌}
use Rattle.std.proofs.lemmas.Iterator.{YieldsList-from_zip}
use Rattle.std.proofs.lemmas.Iterator.Adapters.{YieldsList-from_vec}
use Rattle.std.proofs.lemmas.Iterator.Consumers.{YieldsList-end}
use Rattle.std.proofs.lemmas.List.{map-id}
use Rattle.expr_value.specs.Names.{put_all}
use Rattle.expr_stack.proofs.Beside.{beside_zip}
use Rattle.expr_stack.proofs.many.map_under.Goals as goal

pub returns-clause-ok : goal.returns-clause-ok
returns-clause-ok c =
    let keys = c.args.keys.items in
    let values = c.args.values.items in
    let road = YieldsList-from_zip {s = c.into_iter-key-iterator.result} (YieldsList-from_vec keys (search rules) (search rules)) (YieldsList-from_vec values (search rules) (search rules)) in
    let end = YieldsList-end road c.loop-key.yielded c.loop-key.key-iterator c.loop-key.yielded_by c.next.result c.next.new.self c.in-None.is c.next.ensures.steps in
    let yielded : c.loop-key.yielded ≡ zip keys values = sym (map-id c.loop-key.yielded) ∙ end.0 in
    c.loop-key.invariant ∙ ap (put_all []) (yielded ∙ sym (beside_zip keys values))
