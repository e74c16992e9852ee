use Rattle.expr_predicates.proofs.scalar_accumulator.ScalarAccumulator.take.Goals as goal

pub returns-then-note-clause-noted : goal.returns-then-note-clause-noted
returns-then-note-clause-noted c = c.note.ensures.noted c.if-note.true
