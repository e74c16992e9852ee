use Rattle.expr_syntax.proofs.places.marks.Marks.is_free_since.Given as goal

abbrev pub decreases-loop-end : goal.decreases-loop-end
decreases-loop-end l = l.end
