use Rattle.std.proofs.Common.{List, []}
use Rattle.std.specs.Prelude.{false}
use Rattle.std.proofs.Math.Path.{subst}
use Rattle.std.proofs.lemmas.List.{append-nil}
use Rattle.expr_layout.specs.declared.token.LayoutToken.{LayoutToken}
use Rattle.expr_layout.specs.Layouts.{IsLayout}
use Rattle.expr_layout.proofs.layout.tokens_of.Goals as goal

pub returns-clause-ok : goal.returns-clause-ok
returns-clause-ok c =
    subst (λ (ts : List LayoutToken). IsLayout false c.args.layout.now ts) (append-nil c.loop-token.tokens.items) (c.loop-token.invariant.leads [] c.in_default.ensures)
