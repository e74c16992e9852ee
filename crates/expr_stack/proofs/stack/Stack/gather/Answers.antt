use Rattle.std.proofs.Common.{◌≡◌, [], Ok, ap, ◌∙◌, reverse, take}
use Rattle.std.specs.Prelude.{vec_len}
use Rattle.expr_stack.specs.Cells.{cell_values}
use Rattle.expr_operators.specs.OnOperands.{zip_names}
use Rattle.expr_value.specs.Names.{put_all}
use Rattle.expr_value.specs.declared.value.Value as value
use Rattle.expr_stack.proofs.Helds.{map_cell}
use Rattle.expr_stack.proofs.Owned.{owned_now}
use Rattle.expr_stack.proofs.stack.Stack.gather.Goals as goal

pub returns : goal.returns
returns g c =
    let taken = rw c.len.ensures at c.in_ok-values.ensures.taken in
    owned_now (λ a. a ≡ Ok (value.Map (put_all [] (zip_names c.args.keys.items (reverse (cell_values c.args.kept.now (take (vec_len c.args.keys) c.args.self.now))))))) (value.Map c.in_ok-map.map) _ _ c.push_kept.new.self (map_cell c.in_ok-map.map) taken.1 c.in_ok-push_kept.ensures.pushed
    (ap (λ m. Ok (value.Map m)) (c.in_ok-map.ensures.ok ∙ ap (λ vs. put_all [] (zip_names c.args.keys.items vs)) taken.0))
