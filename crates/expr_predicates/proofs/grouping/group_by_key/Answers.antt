use Rattle.expr_predicates.proofs.grouping.group_by_key.Goals as goal

pub loop-key-preserved : goal.loop-key-preserved
loop-key-preserved c = c.in_ok-groups.ensures.ok c.loop-key.yielded c.loop-key.invariant
