use Rattle.std.proofs.Common.{◌≡◌, rules, [], ◌∷◌, ◌++◌, Some, take, ap, sym, ◌∙◌}
use Rattle.std.proofs.lemmas.List.{take_more}
use Rattle.expr_value.specs.Values.{integer_of}
use Rattle.expr_arguments.specs.Arguments.{all_of}
use Rattle.expr_builtins.proofs.Each.{all_of-refused, all_of-next}
use Rattle.expr_builtins.proofs.number.integers.Goals as goal

pub returns-in_default-clause-refused : goal.returns-in_default-clause-refused
returns-in_default-clause-refused c = λ m.
    let none = rw c.in_default.is at c.as_integer.ensures in
    all_of-refused integer_of c.args.values.now c.loop-i.i c.index-values-i.result c.loop-i-test.true c.index-values-i.is (ap integer_of (sym c.get-value.ensures) ∙ sym none)

pub loop-i-preserved : goal.loop-i-preserved
loop-i-preserved c =
    let vs = c.args.values.now in
    let i = c.loop-i.i in
    let v = c.index-values-i.result in
    let some = rw c.in-Some.is at c.as_integer.ensures in
    let grown = take_more vs i v c.loop-i-test.true ∙ ap (λ u. take i vs ++ u ∷ []) (sym c.index-values-i.is) in
    let pushed : c.push.new.self.items ≡ c.loop-i.numbers.items ++ c.in-Some.number ∷ [] = search rules in
    ap (all_of integer_of) grown ∙ all_of-next integer_of (take i vs) v c.loop-i.numbers.items c.in-Some.number c.loop-i.invariant (ap integer_of (sym c.get-value.ensures) ∙ sym some)
    ∙ ap Some (sym pushed)
