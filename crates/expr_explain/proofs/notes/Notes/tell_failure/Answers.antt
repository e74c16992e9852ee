use Rattle.std.proofs.Common.{◌≡◌, ◌+◌, inl, sym, ap, subst}
use Rattle.expr_tree.specs.TermOf.{term_of}
use Rattle.expr_tree.specs.Weight.{weight}
use Rattle.expr_explain.specs.Noting.{AddsOne}
use Rattle.expr_explain.specs.declared.notes.PartFinding.TheVariants as finding
use Rattle.expr_explain.specs.declared.notes.Notes.{Notes}
use Rattle.expr_explain.proofs.notes.Notes.tell_failure.Goals as goal
use Rattle.expr_explain.proofs.notes.Notes.tell_failure.Goals.{in-Ok, in-Err}

pub returns : goal.returns
returns c =
    let old = c.args.self.now.parts.items in
    let u = term_of c.args.node.now in
    record {
      told = elim c.match-count_nodes.branch [
        | in-Ok w ↦
            subst (λ (s : Notes). AddsOne old s.parts.items u (c.args.before + weight u) finding.Failed) (sym w.self-is) (
            subst (λ e. AddsOne old w.add.new.self.parts.items u e finding.Failed) w.in-Ok.ensures.ok w.add.ensures.told
            )
        | in-Err w ↦ inl (ap (λ (s : Notes). s.parts.items) w.self-is)
      ];
    }
