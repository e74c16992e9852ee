use Rattle.std.proofs.Common.{◌∷◌, ◌∙◌, reverse}
use Rattle.expr_stack.proofs.Entries.{none_empty, own_under, under_only}
use Rattle.expr_stack.proofs.stack.Stack.drop_only.Goals as goal

pub invariant_of-self : goal.invariant_of-self
invariant_of-self g c =
    let entries = c.self.inside.under ∷ reverse c.self.inside.below.items in
    let own = reverse c.self.inside.own.items in
    let only = under_only c.self.inside.top entries own c.requires.0 c.self.invariant.0 (c.self.view_is ∙ c.requires.1) c.requires.2 in
    let fits = own_under c.self.inside.top entries own only.0 c.self.invariant.1 in
    (none_empty entries own fits only.1, fits)

pub returns : goal.returns
returns g c =
    let entries = c.self.inside.under ∷ reverse c.self.inside.below.items in
    let only = under_only c.self.inside.top entries (reverse c.self.inside.own.items) c.requires.0 c.self.invariant.0 (c.self.view_is ∙ c.requires.1) c.requires.2 in
    only.1
