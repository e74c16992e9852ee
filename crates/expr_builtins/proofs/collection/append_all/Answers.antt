use Rattle.std.proofs.Common.{◌≡◌, ◌++◌, None, Some, length, ap, ◌∙◌, sym, rules}
use Rattle.std.specs.Option.{option_map}
use Rattle.std.proofs.lemmas.Iterator.Adapters.{YieldsList-from_vec}
use Rattle.std.proofs.lemmas.Iterator.Consumers.{YieldsList-turn}
use Rattle.expr_value.specs.Values.{items_of}
use Rattle.expr_arguments.specs.Arguments.{all_of}
use Rattle.expr_arguments.specs.Arrays.{array_items}
use Rattle.expr_builtins.specs.Collections.{concatenated}
use Rattle.expr_builtins.proofs.Each.{all_of-refused, refused_passed, row_after}
use Rattle.expr_builtins.proofs.collection.append_all.Goals as goal

pub returns-in_err-array-clause-refused : goal.returns-in_err-array-clause-refused
returns-in_err-array-clause-refused c =
    let turn = YieldsList-turn (YieldsList-from_vec {s = c.into_iter-value-iterator.result} c.args.arrays.items (search rules) (search rules)) c.loop-value.yielded c.loop-value.value-iterator c.loop-value.yielded_by c.next.result c.next.new.self c.in-Some.value c.in-Some.is c.next.ensures.steps in
    refused_passed c.from_residual-in_err-array.result c.in_err-array.field-0.0 (λ k. all_of items_of c.args.arrays.items ≡ None) c.from_residual-in_err-array.ensures.1
    (λ m. all_of-refused items_of c.args.arrays.items (length c.loop-value.yielded) c.in-Some.value turn.0 turn.1 (c.in_err-array.ensures.refusal m).0)

pub loop-value-preserved : goal.loop-value-preserved
loop-value-preserved c =
    row_after c.args.front.items c.loop-value.yielded c.in-Some.value c.loop-value.all.items (array_items c.in_ok-array.array) c.loop-value.invariant c.in_ok-array.ensures.value
    ∙ ap Some (sym c.in_ok-append.ensures)
