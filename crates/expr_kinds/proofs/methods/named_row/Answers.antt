use Rattle.expr_kinds.proofs.methods.named_row.Goals as goal

pub returns-in-Some : goal.returns-in-Some
returns-in-Some c = (c.in-Some.method, c.in-Some.ensures, c.name_row.ensures)
