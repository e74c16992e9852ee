use Rattle.std.proofs.Common.{◌≡◌, ◌+◌, [], ◌∷◌, ◌++◌, map, take, refl, ap, sym, ◌∙◌, arith}
use Rattle.std.proofs.lemmas.List.{take_all}
use Rattle.expr_value.specs.declared.value.Value as value
use Rattle.expr_builtins.specs.Collections.{named_pair, pair}
use Rattle.expr_builtins.proofs.Each.{named_more, all_taken}
use Rattle.expr_builtins.proofs.collection.named_pairs.Goals as goal
use Rattle.expr_builtins.proofs.collection.named_pairs.Goals.{else-loop-i-test, then-loop-i-test+in_default}

pub loop-i-preserved : goal.loop-i-preserved
loop-i-preserved c =
    let found = rw c.in-Some.is at c.get_index.ensures in
    c.in_ok-push.ensures.items
    ∙ ap (λ v. c.loop-i.items.items ++ v ∷ []) (c.in_ok-pair.ensures.ok ∙ ap (λ k. pair k c.in-Some.value.now) c.in_ok-name.ensures.ok)
    ∙ ap (λ l. l ++ pair (value.String c.in-Some.name.now) c.in-Some.value.now ∷ []) c.loop-i.invariant
    ∙ sym (named_more c.args.pairs.now c.loop-i.i (c.loop-i.i + 1) c.in-Some.name.now c.in-Some.value.now (sym found) refl)

pub returns-clause-ok : goal.returns-clause-ok
returns-clause-ok c =
    let m = c.args.pairs.now in
    let taken : take c.loop-i.i m ≡ m = elim c.loop-i-test.branch [
      | else-loop-i-test w ↦ take_all c.loop-i.i m (omega (arith, w.loop-i-test.false, c.len-i-end.ensures.len))
      | then-loop-i-test+in_default w ↦ all_taken m c.loop-i.i (sym (rw w.in_default.is at w.get_index.ensures))
    ] in
    ap value.Array (c.from_vec.ensures ∙ c.loop-i.invariant ∙ ap (map named_pair) taken)
