use Rattle.std.proofs.Common.{Bor, ℕ, List, [], ◌∷◌, ◌++◌, Some, map, take, ap, sym, ◌∙◌}
use Rattle.std.proofs.lemmas.List.{map-append, take_more}
use Rattle.expr_value.specs.Values.{string_of}
use Rattle.expr_arguments.specs.Arguments.{all_of}
use Rattle.expr_builtins.proofs.Each.{all_of-refused, all_of-next}
use Rattle.expr_builtins.proofs.collection.texts.Goals as goal

pub returns-in_default-clause-refused : goal.returns-in_default-clause-refused
returns-in_default-clause-refused c = λ m.
    let none = rw c.in_default.is at c.as_string.ensures in
    all_of-refused string_of c.args.items.now c.loop-i.i c.index-items-i.result c.loop-i-test.true c.index-items-i.is (sym none)

pub loop-i-preserved : goal.loop-i-preserved
loop-i-preserved c =
    let xs = c.args.items.now in
    let i = c.loop-i.i in
    let v = c.index-items-i.result in
    let found = c.loop-i.parts.items in
    let some = rw c.in-Some.is at c.as_string.ensures in
    let grown = take_more xs i v c.loop-i-test.true ∙ ap (λ u. take i xs ++ u ∷ []) (sym c.index-items-i.is) in
    ap (all_of string_of) grown
    ∙ all_of-next string_of (take i xs) v (map (λ (b : Bor (List ℕ)). b.now) found) c.in-Some.text.now c.loop-i.invariant (sym some)
    ∙ ap Some (sym (ap (map (λ (b : Bor (List ℕ)). b.now)) c.in_ok-push.ensures.items ∙ map-append (λ (b : Bor (List ℕ)). b.now) found (c.in-Some.text ∷ [])))
