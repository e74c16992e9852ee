use Rattle.std.proofs.Common.{◌≡◌, true}
use Rattle.expr_tree.specs.Term.{name}
use Rattle.expr_text.specs.Parts.{stands}
use Rattle.expr_text.proofs.Expanding.{name_expands}
use Rattle.expr_text.proofs.node_parts.put_name.Goals as goal

pub returns : goal.returns
returns c =
    let stand : stands c.args.place.is_hashless (name c.args.name.now) ≡ true = cc in
    name_expands c.args.place c.args.name.now stand c.in_ok-put.ensures
