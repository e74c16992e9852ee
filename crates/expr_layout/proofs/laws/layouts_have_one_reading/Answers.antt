use Rattle.std.specs.Prelude.{false}
use Rattle.expr_layout.proofs.OneLayout.{layout_one}
use Rattle.expr_layout.proofs.laws.layouts_have_one_reading.Goals as goal

pub returns : goal.returns
returns c = λ layout ts us. layout_one ts us false layout
