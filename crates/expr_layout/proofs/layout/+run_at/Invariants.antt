use Rattle.expr_layout.proofs.layout.+run_at.Given as goal

abbrev pub decreases-run_at : goal.decreases-run_at
decreases-run_at l = l.left
