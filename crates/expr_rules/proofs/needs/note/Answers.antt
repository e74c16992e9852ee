use Rattle.std.proofs.Common.{◌≡◌, ◌++◌, OnOk, sym, ap, ◌∙◌, append-nil, subst}
use Rattle.expr_rules.specs.Tasks.{hidden}
use Rattle.expr_rules.proofs.Hiding.{hidden-nil}
use Rattle.expr_rules.proofs.Walking.{keys}
use Rattle.expr_rules.proofs.needs.note.Goals as goal

pub returns-in-None : goal.returns-in-None
returns-in-None c =
    let found = keys c.args.found.now.items in
    sym (ap (λ l. found ++ hidden c.args.asked (keys c.args.scope.now) l) (sym c.in-None.ensures) ∙ ap (λ l. found ++ l) (hidden-nil c.args.asked (keys c.args.scope.now)) ∙ append-nil found)

pub returns-in-Some : goal.returns-in-Some
returns-in-Some c =
    subst (λ l. OnOk c.add_unless_hidden.result (keys c.add_unless_hidden.new.found.items ≡ keys c.args.found.now.items ++ hidden c.args.asked (keys c.args.scope.now) l)) c.in-Some.ensures c.add_unless_hidden.ensures
