use Rattle.std.proofs.Common.{◌≡◌, None, Some, length, ap, ◌∙◌, sym, rules}
use Rattle.std.proofs.lemmas.Iterator.Adapters.{YieldsList-from_vec}
use Rattle.std.proofs.lemmas.Iterator.Consumers.{YieldsList-turn}
use Rattle.expr_arguments.specs.Arguments.{all_of}
use Rattle.expr_builtins.specs.Collections.{pair_of}
use Rattle.expr_builtins.proofs.Each.{all_of-refused, all_of-next, refused_passed}
use Rattle.expr_builtins.proofs.collection.pairs_of_items.Goals as goal

pub returns-in_err-pair-clause-refused : goal.returns-in_err-pair-clause-refused
returns-in_err-pair-clause-refused c =
    let turn = YieldsList-turn (YieldsList-from_vec {s = c.into_iter-item-iterator.result} c.args.items.items (search rules) (search rules)) c.loop-item.yielded c.loop-item.item-iterator c.loop-item.yielded_by c.next.result c.next.new.self c.in-Some.item c.in-Some.is c.next.ensures.steps in
    refused_passed c.from_residual-in_err-pair.result c.in_err-pair.field-0.0 (λ k. all_of pair_of c.args.items.items ≡ None) c.from_residual-in_err-pair.ensures.1
    (λ m. all_of-refused pair_of c.args.items.items (length c.loop-item.yielded) c.in-Some.item turn.0 turn.1 (c.in_err-pair.ensures.refused m))

pub loop-item-preserved : goal.loop-item-preserved
loop-item-preserved c =
    all_of-next pair_of c.loop-item.yielded c.in-Some.item c.loop-item.pairs.items c.in_ok-pair.pair c.loop-item.invariant c.in_ok-pair.ensures.ok
    ∙ ap Some (sym c.in_ok-push.ensures.items)
