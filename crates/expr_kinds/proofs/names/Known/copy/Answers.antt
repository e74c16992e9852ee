use Rattle.std.proofs.Common.{◌≡◌, ◌<◌, ◌≤◌, ◌++◌, [], ◌∷◌, length, get_or, take, sym, ap, ◌∙◌, subst, rules}
use Rattle.std.proofs.lemmas.List.{take_all, take_more}
use Rattle.expr_schema.specs.SchemaView.{scope_of}
use Rattle.expr_kinds.specs.Checks.{with_bound}
use Rattle.expr_kinds.specs.declared.names.BoundKind.{BoundKind}
use Rattle.expr_kinds.proofs.names.Known.copy.Goals as goal

pub loop-entry-preserved : goal.loop-entry-preserved
loop-entry-preserved c =
    let xs = c.args.self.now.bound.items in
    let i = c.loop-entry.entry-index in
    let x = c.entry-item.result in
    let b : BoundKind = record { name = x.name; kind = c.in_ok-kind.kind } in
    let same : b ≡ x = search rules in
    let below : i < length xs = subst (λ ys. i < length ys) c.deref-entry-items.ensures.value c.loop-entry-test.true in
    c.in_ok-push.ensures.items ∙ ap (λ bs. bs ++ b ∷ []) c.loop-entry.invariant ∙ ap (λ y. take i xs ++ y ∷ []) (same ∙ c.entry-item.is ∙ ap (λ ys. get_or ys i x) c.deref-entry-items.ensures.value) ∙ sym (take_more xs i x below)

pub returns-clause-ok : goal.returns-clause-ok
returns-clause-ok c =
    let xs = c.args.self.now.bound.items in
    ap (λ bs. with_bound bs (scope_of c.args.self.now.schema.now)) (c.loop-entry.invariant ∙ take_all c.loop-entry.entry-index xs (subst (λ ys. length ys ≤ c.loop-entry.entry-index) c.deref-entry-items.ensures.value c.loop-entry-test.false))
