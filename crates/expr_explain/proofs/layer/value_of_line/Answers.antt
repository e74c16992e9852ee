use Rattle.std.proofs.Common.{◌≡◌, ◌<◌, ◌+◌, ◌-◌, true, false, bytes_eq, [], ◌∷◌, ◌++◌, length, take, sym, ap, ◌∙◌, arith}
use Rattle.std.proofs.lemmas.List.{take_more}
use Rattle.expr_explain.proofs.Inside.{line-found, line-passed}
use Rattle.expr_explain.proofs.layer.value_of_line.Goals as goal

pub returns-then-eq : goal.returns-then-eq
returns-then-eq c =
    let all = c.args.lines.now in
    let n = c.loop-count.count in
    let b = c.index-lines-count.result in
    let below : n - 1 < length all = omega (arith, c.loop-count.invariant.within, c.loop-count-test.true) in
    let next : n ≡ n - 1 + 1 = omega (arith, c.loop-count-test.true) in
    let split : take n all ≡ take (n - 1) all ++ b ∷ [] =
    ap (λ k. take k all) next ∙ take_more all (n - 1) b below ∙ ap (λ x. take (n - 1) all ++ x ∷ []) (sym c.index-lines-count.is) in
    let same : bytes_eq b.name.now c.args.key.now ≡ true = cc in
    λ ctx. sym (line-found all (take n all) (take (n - 1) all) b c.args.key.now c.loop-count.invariant.passed split same ctx)

pub loop-count-preserved : goal.loop-count-preserved
loop-count-preserved c =
    let all = c.args.lines.now in
    let n = c.loop-count.count in
    let b = c.index-lines-count.result in
    let below : n - 1 < length all = omega (arith, c.loop-count.invariant.within, c.loop-count-test.true) in
    let next : n ≡ n - 1 + 1 = omega (arith, c.loop-count-test.true) in
    let split : take n all ≡ take (n - 1) all ++ b ∷ [] =
    ap (λ k. take k all) next ∙ take_more all (n - 1) b below ∙ ap (λ x. take (n - 1) all ++ x ∷ []) (sym c.index-lines-count.is) in
    let other : bytes_eq b.name.now c.args.key.now ≡ false = cc in
    record {
      within = omega (arith, c.loop-count.invariant.within, c.loop-count-test.true);
      passed = line-passed all (take n all) (take (n - 1) all) b c.args.key.now c.loop-count.invariant.passed split other;
    }
