use Rattle.std.proofs.Common.{◌∷◌, ap, ◌∙◌, reverse}
use Rattle.expr_stack.specs.declared.cell.Cell.TheVariants as cell
use Rattle.expr_value.specs.declared.value.Value as value
use Rattle.expr_stack.proofs.Entries.{under_top}
use Rattle.expr_stack.proofs.stack.Stack.put_truth.Goals as goal

pub returns : goal.returns
returns g c = λ x rest e.
    let entries = c.self.inside.under ∷ reverse c.self.inside.below.items in
    ap (λ cs. cell.Value (value.Bool c.args.truth) ∷ cs) (under_top c.self.inside.top entries (reverse c.self.inside.own.items) x rest c.in_default.not-Own c.self.invariant.0 (c.self.view_is ∙ e))
