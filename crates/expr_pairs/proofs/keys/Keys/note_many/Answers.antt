use Rattle.std.proofs.Common.{◌≡◌, refl, sym, ap, ◌∙◌}
use Rattle.expr_pairs.specs.Keys.{keys_in}
use Rattle.expr_pairs.proofs.Noting.{noted_as}
use Rattle.expr_pairs.proofs.keys.Keys.note_many.Goals as goal

pub new-requires-in-Table-table-clause-noted : goal.new-requires-in-Table-table-clause-noted
new-requires-in-Table-table-clause-noted g c =
    let same : c.in-Table-table.table.keys ≡ c.in-Table.table.keys = ap keys_in (sym c.in-Table-table.is ∙ c.replace-table.ensures.value ∙ c.in-Table.is) in
    noted_as _ _ _ _ _ (c.moved.ensures ∙ same ∙ sym c.as_slice.ensures.keys) refl c.in_ok-places.ensures
