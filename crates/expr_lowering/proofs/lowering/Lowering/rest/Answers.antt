use Rattle.std.proofs.Common.{◌≡◌, ◌<◌, [], Option, MatchOption, sym, subst}
use Rattle.std.specs.Borrow.{Bor}
use Rattle.expr_tree.specs.TermOf.{term_of}
use Rattle.expr_tree.specs.declared.node.Node.{Node}
use Rattle.expr_lowering.specs.Leading.{Leads, with_task}
use Rattle.expr_lowering.specs.Keeping.{NextKeeps}
use Rattle.expr_lowering.specs.Lent.{worklist_of}
use Rattle.expr_lowering.specs.States.{state_of}
use Rattle.expr_lowering.specs.Tasks.{term_task}
use Rattle.expr_lowering.proofs.AtPoint.{left_load, step_goes, step_lighter}
use Rattle.expr_lowering.proofs.lowering.Lowering.rest.Goals as goal

pub loop-next-smaller : goal.loop-next-smaller
loop-next-smaller c =
    let s = state_of c.loop-next.self in
    let new = state_of c.step.new.self in
    subst (λ (o : Option (Bor Node)). left_load c.in_ok-next.next new < left_load o s) (sym c.in-Some.is) (step_lighter s s new (term_of c.in-Some.node.now) _ c.in_ok-next.next c.in_ok-next.ensures.leads)

pub loop-next-preserved : goal.loop-next-preserved
loop-next-preserved c =
    let from = with_task (term_task (term_of c.args.node.now)) (state_of c.args.self.now) in
    let works = c.loop-next.self.works in
    let s = state_of c.loop-next.self in
    record {
      leads = step_goes from s (state_of c.step.new.self) (term_of c.in-Some.node.now) _ c.in_ok-next.next (
          subst (λ (o : Option (Bor Node)). MatchOption o ((worklist_of works.next works.rest.items ≡ []) × Leads 1 from s) (λ n. Leads 0 from (with_task (term_task (term_of n.now)) s))) c.in-Some.is c.loop-next.invariant.leads
          ) c.in_ok-next.ensures.leads;
      kept = λ n old.
          let q = c.loop-next.invariant.kept n old in
          c.in_ok-next.ensures.kept (subst NextKeeps c.in-Some.is q.0) q.1;
    }

pub returns-clause-kept : goal.returns-clause-kept
returns-clause-kept c = λ n old. (c.loop-next.invariant.kept n old).1
