use Rattle.std.proofs.Common.{rules, ◌∷◌, ◌∙◌, reverse}
use Rattle.expr_stack.specs.Stacked.{cells_of_entries}
use Rattle.expr_stack.proofs.Owned.{negated, noted_not}
use Rattle.expr_stack.proofs.stack.Stack.prefix_fast.Goals as goal

pub returns-in-Not-Bool : goal.returns-in-Not-Bool
returns-in-Not-Bool g c = λ kept x rest e.
    let below = cells_of_entries (c.self.inside.under ∷ reverse c.self.inside.below.items) (reverse c.self.inside.own.items) in
    rw c.in-Not-Bool.is-0 (noted_not kept c.in-Not-Bool.b below x rest (rw c.in-Not-Bool.is-1 at (c.self.view_is ∙ e)))

pub returns-in-Negative-Integer : goal.returns-in-Negative-Integer
returns-in-Negative-Integer g c = λ kept x rest e.
    let below = cells_of_entries (c.self.inside.under ∷ reverse c.self.inside.below.items) (reverse c.self.inside.own.items) in
    rw c.in-Negative-Integer.is-0 (negated kept c.in-Negative-Integer.n _ below x rest (rw c.in-Negative-Integer.is-1 at (c.self.view_is ∙ e)) (search rules))
