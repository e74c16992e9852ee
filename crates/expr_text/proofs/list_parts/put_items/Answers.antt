use Rattle.expr_text.proofs.ListExpanding.{items_expand}
use Rattle.expr_text.proofs.list_parts.put_items.Goals as goal

pub returns-in_ok-put_three-in-Some : goal.returns-in_ok-put_three-in-Some
returns-in_ok-put_three-in-Some c =
    items_expand c.args.is_first c.args.ban _ c.args.items.now c.in-Some.rest.now c.in-Some.item.now _ _ _ _ c.in-Some.ensures.cases.0 c.gap.ensures c.is_empty.ensures c.has_first-is_hashless.ensures c.apart.ensures c.after_first.ensures c.in_ok-put_three-in-Some.ensures
