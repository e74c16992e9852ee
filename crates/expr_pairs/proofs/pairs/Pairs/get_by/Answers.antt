use Rattle.std.proofs.Common.{slice_get, ap, ◌∙◌, sym}
use Rattle.std.specs.Map.{lookup}
use Rattle.std.specs.Option.{option_copied}
use Rattle.expr_pairs.proofs.Beside.{find_beside, find_none_beside}
use Rattle.expr_pairs.proofs.pairs.Pairs.get_by.Goals as goal

pub returns-in_err-index : goal.returns-in_err-index
returns-in_err-index g c =
    ap option_copied c.from_residual.ensures
    ∙ sym (find_none_beside _ c.self.inside.keys c.self.inside.values.items c.self.invariant c.in_err-index.ensures)
    ∙ ap (lookup _) c.self.view_is

pub returns : goal.returns
returns g c =
    c.item_at.ensures ∙ ap (λ l. slice_get l c.in_ok-index.index) c.deref.ensures.value
    ∙ sym (find_beside _ c.self.inside.keys c.self.inside.values.items c.self.invariant c.in_ok-index.index c.in_ok-index.ensures)
    ∙ ap (lookup _) c.self.view_is
