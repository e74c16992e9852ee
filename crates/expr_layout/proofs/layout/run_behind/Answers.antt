use Rattle.std.proofs.Common.{ap, ◌∙◌}
use Rattle.expr_layout.specs.Layouts.{either, run_behind, run_token}
use Rattle.expr_layout.specs.declared.token.LayoutToken.TheVariants as layout_token
use Rattle.expr_layout.proofs.layout.run_behind.Goals as goal

pub returns : goal.returns
unfolding Rattle.expr_layout.specs.Layouts.run_behind
returns c =
    let zeros = c.zeros.ensures ∙ ap (run_token (layout_token.Fraction c.args.separator)) c.whole_run.ensures in
    let nines = c.nines.ensures ∙ ap (run_token (layout_token.ShortFraction c.args.separator)) c.whole_run-2.ensures in
    c.either.ensures ∙ (λ i. either (zeros i) (nines i))
