use Rattle.std.proofs.lemmas.Result.{on_ok_weaker}
use Rattle.expr_rules.proofs.Splitting.{no_items, items_split}
use Rattle.expr_rules.proofs.tasks.split_items.Goals as goal

pub returns-in-None : goal.returns-in-None
returns-in-None c = no_items _ c.args.items.now c.in-None.ensures.cases

pub returns-in_ok-put_items-in-Some : goal.returns-in_ok-put_items-in-Some
returns-in_ok-put_items-in-Some c =
    on_ok_weaker c.put_one.result (λ h. items_split c.args.items.now c.in-Some.rest.now c.in-Some.item.now c.in-Some.ensures.cases.0 c.in_ok-put_items-in-Some.ensures h) c.put_one.ensures
