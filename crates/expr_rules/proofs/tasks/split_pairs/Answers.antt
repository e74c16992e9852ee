use Rattle.std.proofs.lemmas.Result.{on_ok_weaker}
use Rattle.expr_rules.proofs.Splitting.{no_pairs, pairs_split}
use Rattle.expr_rules.proofs.tasks.split_pairs.Goals as goal

pub returns-in-None : goal.returns-in-None
returns-in-None c = no_pairs _ c.args.pairs.now c.in-None.ensures.cases

pub returns-in_ok-put_pairs-in-Some : goal.returns-in_ok-put_pairs-in-Some
returns-in_ok-put_pairs-in-Some c =
    on_ok_weaker c.put_one.result (λ h. pairs_split c.args.pairs.now c.in-Some.rest.now c.in-Some.pair.now c.in-Some.ensures.cases.0 c.in_ok-put_pairs-in-Some.ensures h) c.put_one.ensures
