use Rattle.std.proofs.Common.{cond, sym, ap, ◌∙◌}
use Rattle.expr_schema.specs.Kinds.{failing, total}
use Rattle.expr_kinds.proofs.known_literals.cause_effect.Goals as goal

pub returns-then-excludes : goal.returns-then-excludes
returns-then-excludes c = ap (λ b. cond b total failing) (sym c.if-excludes.true ∙ c.excludes.ensures)

pub returns : goal.returns
returns c = ap (λ b. cond b total failing) (sym c.if-excludes.false ∙ c.excludes.ensures)
