use Rattle.std.proofs.Common.{◌∷◌, reverse}
use Rattle.expr_stack.proofs.Entries.{plain_top}
use Rattle.expr_stack.proofs.stack.Stack.own_top.Goals as goal

pub returns-in_default : goal.returns-in_default
returns-in_default g c =
    rw (← c.self.view_is) (plain_top c.self.inside.top (c.self.inside.under ∷ reverse c.self.inside.below.items) (reverse c.self.inside.own.items) c.in_default.not-Own c.self.invariant.0)
