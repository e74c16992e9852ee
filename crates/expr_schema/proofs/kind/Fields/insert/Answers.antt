use Rattle.std.proofs.Common.{◌≡◌, ap, ◌∙◌, rules}
use Rattle.expr_schema.specs.declared.kind.Kind.{Kind, the_lemmas}
use Rattle.expr_schema.specs.declared.kind.Kind.TheOpen.{Fields-F}
use Rattle.expr_schema.specs.declared.kind.Fields.{Fields, out-Fields, roll-Fields}
use Rattle.expr_schema.specs.declared.kind.FieldKind.{FieldKind}
use Rattle.expr_schema.proofs.Insertion.{on_ok, put_stands}
use Rattle.expr_schema.proofs.kind.Fields.insert.Goals as goal

out-roll : (r : Fields-F Kind FieldKind Fields) → out-Fields (roll-Fields r) ≡ r
out-roll r = search (rules, the_lemmas)

pub returns-clause-ok : goal.returns-clause-ok
returns-clause-ok c =
    let old = c.args.self.now in
    let layer : Fields-F Kind FieldKind Fields = record { named = c.insert.new.self; others = (out-Fields old).others } in
    on_ok c.insert.result _ _ (λ e n x. put_stands old (roll-Fields layer) c.args.name c.args.entry (ap (λ r. r.named) (out-roll layer) ∙ e) (ap (λ r. r.others) (out-roll layer)) n x) c.insert.ensures.ok
