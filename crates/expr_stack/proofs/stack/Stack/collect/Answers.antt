use Rattle.std.proofs.Common.{◌≡◌, Ok, ap, ◌∙◌, reverse, take}
use Rattle.expr_stack.specs.Cells.{cell_values}
use Rattle.expr_value.specs.declared.value.Value as value
use Rattle.expr_stack.proofs.Helds.{array_cell}
use Rattle.expr_stack.proofs.Owned.{owned_now}
use Rattle.expr_stack.proofs.stack.Stack.collect.Goals as goal

pub returns : goal.returns
returns g c =
    let taken = c.in_ok-values.ensures.taken in
    owned_now (λ a. a ≡ Ok (value.Array (reverse (cell_values c.args.kept.now (take c.args.count c.args.self.now))))) (value.Array c.from_vec.result) _ _ c.push_kept.new.self (array_cell c.from_vec.result) taken.1 c.in_ok-push_kept.ensures.pushed (ap (λ items. Ok (value.Array items)) (c.from_vec.ensures ∙ taken.0))
