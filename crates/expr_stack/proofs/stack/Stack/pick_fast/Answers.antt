use Rattle.std.proofs.Common.{◌∷◌, ap, ◌∙◌, reverse}
use Rattle.expr_stack.specs.Cells.{top_of}
use Rattle.expr_stack.specs.Stacked.{cells_of_entries}
use Rattle.expr_stack.proofs.Parts.{picked_lent}
use Rattle.expr_stack.proofs.stack.Stack.pick_fast.Goals as goal

pub returns-in-Some-clause-picks : goal.returns-in-Some-clause-picks
returns-in-Some-clause-picks g c = λ kept optional x rest e.
    let entries = c.self.inside.under ∷ reverse c.self.inside.below.items in
    let own = reverse c.self.inside.own.items in
    picked_lent kept c.args.key.now optional (cells_of_entries entries own) _ x rest c.in-Lent.value.now c.in-Some.part.now (rw c.in-Lent.is at (c.self.view_is ∙ e))
    (c.in-Some.ensures.part optional) c.in-Some.ensures.inside (c.from_operand-self-inside.ensures.shown entries own ∙ ap (λ d. d ∷ cells_of_entries entries own) c.from_ref.ensures)

pub returns-in-Some-clause-lent : goal.returns-in-Some-clause-lent
returns-in-Some-clause-lent g c = λ did.
    let entries = c.self.inside.under ∷ reverse c.self.inside.below.items in
    let own = reverse c.self.inside.own.items in
    (c.in-Some.part.now, ap top_of (c.from_operand-self-inside.ensures.shown entries own) ∙ c.from_ref.ensures)
