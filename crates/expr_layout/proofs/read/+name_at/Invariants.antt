use Rattle.expr_layout.proofs.read.+name_at.Given as goal

abbrev pub decreases-name_at : goal.decreases-name_at
decreases-name_at l = l.left
