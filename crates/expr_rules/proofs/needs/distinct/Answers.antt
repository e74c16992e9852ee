use Rattle.std.proofs.Common.{◌≡◌, map, string_bytes, IfOk, rules}
use Rattle.std.proofs.lemmas.Result.{IfOk-weaker}
use Rattle.expr_rules.proofs.Distinct.{distinct_names}
use Rattle.expr_rules.proofs.needs.distinct.Goals as goal

pub returns : goal.returns
returns c =
    let keys = c.in_ok-set.set.keys in
    let named : IfOk c.collect.result (λ sorted. map string_bytes sorted.items ≡ map string_bytes keys) = search rules in
    IfOk-weaker c.collect.result _ _ (λ sorted is. distinct_names keys (map (λ name. name.now) c.args.names.now) (map string_bytes sorted.items) c.in_ok-set.ensures is) named
