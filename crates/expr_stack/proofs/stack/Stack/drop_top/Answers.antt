use Rattle.std.proofs.Common.{◌∷◌, ◌∙◌, reverse}
use Rattle.expr_stack.proofs.Entries.{under_top}
use Rattle.expr_stack.proofs.stack.Stack.drop_top.Goals as goal

pub returns : goal.returns
returns g c = λ x rest e.
    let entries = c.self.inside.under ∷ reverse c.self.inside.below.items in
    let own = reverse c.self.inside.own.items in
    c.pop_entry-self-inside-2.ensures.cells c.self.inside.under own ∙ under_top c.self.inside.top entries own x rest c.in_default.not-Own c.self.invariant.0 (c.self.view_is ∙ e)
