use Rattle.std.proofs.Common.{sym, ap, ◌∙◌}
use Rattle.expr_rules.specs.Tasks.{is_hidden}
use Rattle.expr_rules.proofs.Hiding.{list_any-keys}
use Rattle.expr_rules.proofs.Walking.{keys}
use Rattle.expr_rules.proofs.needs.is_hidden.Goals as goal

pub returns-in-Names : goal.returns-in-Names
returns-in-Names c = c.holds.ensures ∙ list_any-keys c.args.name.now c.args.scope.now ∙ ap (λ a. is_hidden a (keys c.args.scope.now) c.args.name.now) (sym c.in-Names.is)
