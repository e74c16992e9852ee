use Rattle.std.proofs.Common.{◌≡◌, true, false, ◌∷◌, ◌∙◌, arith}
use Rattle.expr_operators.specs.Operators.{truth}
use Rattle.expr_stack.specs.Cells.{cell_value}
use Rattle.expr_stack.specs.declared.cell.Cell.TheVariants as cell
use Rattle.expr_value.specs.declared.value.Value as value
use Rattle.expr_acts.proofs.Deciding.{decides_fails, decides_same_holds}
use Rattle.expr_acts.proofs.conditions.and_then.Goals as goal
use Rattle.expr_acts.proofs.conditions.and_then.Goals.{then-not-holds+in_ok-push_bool, else-not-holds}

pub returns : goal.returns
returns g c = λ x rest e.
    elim c.if-not-holds.branch [
      | then-not-holds+in_ok-push_bool w ↦ let was : c.in_ok-holds.holds ≡ false = grind (arith, w.if-not-holds.true) in
          decides_fails c.in_ok-holds.holds (truth (cell_value c.args.kept.now x)) rest c.condition.new.stack c.if-not-holds.stack (cell.Value (value.Bool false)) was (c.in_ok-holds.ensures x rest e) (w.stack-is ∙ w.in_ok-push_bool.ensures.pushed)
      | else-not-holds w ↦ let was : c.in_ok-holds.holds ≡ true = grind (arith, w.if-not-holds.false) in
          decides_same_holds c.in_ok-holds.holds (truth (cell_value c.args.kept.now x)) rest c.condition.new.stack c.if-not-holds.stack (cell.Value (value.Bool false) ∷ rest) was (c.in_ok-holds.ensures x rest e) w.stack-is
    ]
