use Rattle.std.proofs.Common.{reverse}
use Rattle.expr_stack.proofs.Entries.{top_not_empty}
use Rattle.expr_stack.proofs.stack.Stack.pop_here.Goals as goal

pub unreachable-requires : goal.unreachable-requires
unreachable-requires g c =
    top_not_empty c.self.inside.under c.self.inside.below.items (reverse c.self.inside.own.items) c.args.self.now (rw c.in-Empty.is at c.self.invariant.0) (rw c.in-Empty.is at c.self.view_is) c.requires
