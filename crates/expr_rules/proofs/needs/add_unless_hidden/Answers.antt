use Rattle.std.proofs.Common.{◌≡◌, true, false, ◌++◌, [], ◌∷◌, if◌then◌else◌, sym, ap, ◌∙◌, append-nil}
use Rattle.std.proofs.lemmas.List.{map-append}
use Rattle.expr_rules.specs.Tasks.{is_hidden}
use Rattle.expr_rules.proofs.Hiding.{hidden-one}
use Rattle.expr_rules.proofs.Walking.{keys}
use Rattle.expr_rules.proofs.needs.add_unless_hidden.Goals as goal

pub returns-in_ok-push : goal.returns-in_ok-push
returns-in_ok-push c =
    let scope = keys c.args.scope.now in
    let n = c.args.name.now in
    let free : is_hidden c.args.asked scope n ≡ false = cc in
    ap keys c.in_ok-push.ensures.items ∙ map-append (λ k. k.now) c.args.found.now.items (c.args.name ∷ [])
    ∙ ap (λ l. keys c.args.found.now.items ++ l) (sym (hidden-one c.args.asked scope n ∙ ap (λ b. if b then [] else n ∷ []) free))

pub returns-else-not-is_hidden : goal.returns-else-not-is_hidden
returns-else-not-is_hidden c =
    let scope = keys c.args.scope.now in
    let n = c.args.name.now in
    let taken : is_hidden c.args.asked scope n ≡ true = cc in
    sym (ap (λ l. keys c.args.found.now.items ++ l) (hidden-one c.args.asked scope n ∙ ap (λ b. if b then [] else n ∷ []) taken) ∙ append-nil (keys c.args.found.now.items))
