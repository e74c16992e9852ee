use Rattle.std.proofs.Common.{map, string_bytes, sym, ap, ◌∙◌}
use Rattle.std.specs.BTreeSet.{insert_key}
use Rattle.expr_tree.proofs.Rising.{cmp, insert_there, insert_bytes, found_bytes, sorted_bytes}
use Rattle.expr_rules.proofs.needs.add_name.Goals as goal

pub returns-then-contains-clause-added : goal.returns-then-contains-clause-added
returns-then-contains-clause-added c =
    let n = c.args.name.now in
    let keys = c.args.set.now.keys in
    sym (insert_there n (map string_bytes keys) (sorted_bytes keys c.requires) (sym (found_bytes n keys) ∙ sym c.contains.ensures ∙ c.if-contains.true))

pub returns-clause-added : goal.returns-clause-added
returns-clause-added c =
    let keys = c.args.set.now.keys in
    ap (map string_bytes) c.in_ok-insert.ensures.keys ∙ insert_bytes keys c.in_ok-name.name ∙ ap (insert_key cmp (map string_bytes keys)) c.in_ok-name.ensures.ok
