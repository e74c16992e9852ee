use Rattle.expr_costs.proofs.cost.charge.Goals as goal

pub returns-clause-covers : goal.returns-clause-covers
returns-clause-covers g c work room up = c.unmetered.ensures work room
