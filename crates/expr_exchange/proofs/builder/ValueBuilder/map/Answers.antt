use Rattle.std.proofs.Common.{◌≡◌, ◌++◌, ◌∷◌, ◌+ℤ◌, [], arith, length, pos, rules}
use Rattle.std.proofs.lemmas.Grind.{common_steps}
use Rattle.std.proofs.lemmas.Int.{ints}
use Rattle.std.proofs.lemmas.Result.{IfOk-weaker}
use Rattle.expr_exchange.specs.Builder.{BecomesMap, values_of}
use Rattle.expr_exchange.proofs.builder.ValueBuilder.map.Goals as goal

pub returns-clause-ok : goal.returns-clause-ok
returns-clause-ok c =
    let old = values_of c.args.self.now in
    let front = values_of c.take_last.new.self in
    let new = values_of c.push.new.self in
    let map = c.in_ok-map.map in
    let many : pos (length c.in_ok-values.values.items) ≡ c.args.count +ℤ c.args.count = first_of (search rules, first_of (omega (arith, ints), grind (arith, common_steps))) in
    IfOk-weaker c.push.result (λ _. new ≡ front ++ map ∷ []) (λ _. BecomesMap (c.args.count +ℤ c.args.count) old new)
    (λ _ stands. record {
      made = map;
      place = record { front = front; last = c.in_ok-values.values.items; stood = c.in_ok-values.ensures.ok; many = many; stands = stands };
      is = c.in_ok-map.ensures.ok;
    }) c.push.ensures.ok
