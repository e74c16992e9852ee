use Rattle.expr_syntax.proofs.places.marks.Marks.parts.Given as goal

abbrev pub decreases-loop-end : goal.decreases-loop-end
decreases-loop-end l = l.end
