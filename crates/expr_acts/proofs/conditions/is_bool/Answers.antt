use Rattle.std.proofs.Common.{List, subst, sym, ◌≡◌}
use Rattle.std.specs.Prelude.{MatchBool}
use Rattle.expr_operators.specs.Operators.{truth}
use Rattle.expr_stack.specs.Pushes.{HasPushed, OnOne}
use Rattle.expr_value.specs.declared.value.Value.{Value}
use Rattle.expr_acts.proofs.Deciding.{bool_made}
use Rattle.expr_acts.proofs.conditions.is_bool.Goals as goal

pub returns : goal.returns
returns g c =
    subst (
    λ b. MatchBool b ((kept : List Value) → OnOne kept c.args.stack.now (λ x rest. HasPushed (λ a. a ≡ truth x) rest c.args.stack.now)) (Unit {0})
    ) (sym c.is_some.ensures) (bool_made c.args.stack.now c.truth.result c.truth.ensures)
