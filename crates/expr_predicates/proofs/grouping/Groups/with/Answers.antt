use Rattle.std.proofs.Common.{◌∙◌}
use Rattle.expr_value.specs.Keys.{key_eq, key_eq_equiv}
use Rattle.expr_predicates.specs.Grouping.{item_lists}
use Rattle.expr_predicates.proofs.Grouped.{pushed_keys, pushed_items}
use Rattle.expr_predicates.proofs.grouping.Groups.with.Goals as goal

pub returns-clause-ok : goal.returns-clause-ok
returns-clause-ok c = λ ps h.
    let new = c.in_ok-index.ensures in
    record {
      keys = new.keys ∙ pushed_keys key_eq key_eq_equiv c.args.self.keys ps c.args.key c.args.item h.keys;
      items = pushed_items key_eq key_eq_equiv c.args.self.keys c.insert_full.new.self ps c.args.key c.args.item c.in_ok-index.index new.stored.0
          (item_lists c.args.self.items.items) (item_lists c.in_ok-items.items.items) (item_lists c.in_ok-items-2.items.items) c.in_ok-index.is_new
          h.keys h.items new.keys new.added c.in_ok-items.ensures.lists new.distinct new.stored.1 new.stored.2 c.in_ok-items-2.ensures.lists;
    }
