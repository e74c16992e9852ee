use Rattle.std.proofs.Common.{◌≡◌, rules, subst}
use Rattle.expr_tree.specs.TermOf.{term_of}
use Rattle.expr_explain.specs.Noting.{AddsOne}
use Rattle.expr_explain.specs.declared.notes.PartFinding.TheVariants as finding
use Rattle.expr_explain.proofs.notes.Notes.tell.Goals as goal

pub returns-in-Ok-clause-told : goal.returns-in-Ok-clause-told
returns-in-Ok-clause-told c =
    let same : c.in-Ok.value ≡ c.args.value.now = search rules in
    subst (λ v. AddsOne c.args.self.now.parts.items c.add.new.self.parts.items (term_of c.args.node.now) c.args.self.now.count (finding.Value v)) same c.add.ensures.told
