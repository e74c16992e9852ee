use Rattle.std.proofs.Common.{◌∷◌, ◌∙◌, reverse}
use Rattle.expr_stack.specs.Stacked.{cells_of_entries}
use Rattle.expr_stack.proofs.Parts.{picked_in_place}
use Rattle.expr_stack.proofs.stack.Stack.pick_in_place.Goals as goal

pub returns : goal.returns
returns g c = λ optional x rest e.
    let entries = c.self.inside.under ∷ reverse c.self.inside.below.items in
    let own = reverse c.self.inside.own.items in
    let part = c.in-Some-lent_part.part.now in
    rw (c.in-Some-scalar_entry.ensures.cells entries own) (
    picked_in_place c.args.kept.now c.args.key.now optional c.in-Kept.place (cells_of_entries entries own) x rest c.in-Some.held.now part (rw c.in-Kept.is at (c.self.view_is ∙ e)) c.in-Some.ensures
    (c.in-Some-lent_part.ensures.part optional) c.in-Some-scalar_entry.ensures.made
    )
