use Rattle.std.proofs.Common.{map, ap, sym, ◌∙◌, subst}
use Rattle.expr_tree.specs.TermOf.{term_of}
use Rattle.expr_lowering.specs.Leading.{Leads, with_task}
use Rattle.expr_lowering.specs.Lent.{task_of, worklist_of}
use Rattle.expr_lowering.specs.States.{state_of}
use Rattle.expr_lowering.specs.Tasks.{term_task}
use Rattle.expr_lowering.proofs.Leading.{leads_self}
use Rattle.expr_lowering.proofs.Patterns.{of_work, one_taken}
use Rattle.expr_lowering.proofs.lowering.Lowering.next.Goals as goal

pub returns-in-Some-Node-clause-leads : goal.returns-in-Some-Node-clause-leads
returns-in-Some-Node-clause-leads c =
    let s = state_of c.args.self.now in
    let new = record (state_of c.args.self.now) { tasks = map task_of (worklist_of c.pop.new.self.next c.pop.new.self.rest.items) } in
    let next = with_task (term_task (term_of c.in-Some-Node.node.now)) new in
    let is = ap (λ ws. record (state_of c.args.self.now) { tasks = map task_of ws }) c.in-Some-Node.ensures ∙ ap (λ v. with_task (task_of v) new) c.in-Some-Node.field-0-is in
    subst (λ x. Leads 0 x next) (sym is) (leads_self next)

pub returns-in-Some-Node-clause-kept : goal.returns-in-Some-Node-clause-kept
returns-in-Some-Node-clause-kept c = λ old.
    let t = one_taken _ _ _ old c.in-Some-Node.field-0 _ c.in-Some-Node.ensures in
    (of_work _ _ c.in-Some-Node.field-0-is t.0, t.1)

pub returns-in_ok-work-in-Some : goal.returns-in_ok-work-in-Some
returns-in_ok-work-in-Some c =
    let new = record (state_of c.args.self.now) { tasks = map task_of (worklist_of c.pop.new.self.next c.pop.new.self.rest.items) } in
    let is = ap (λ ws. record (state_of c.args.self.now) { tasks = map task_of ws }) c.in-Some.ensures in
    record {
      leads = subst (λ x. Leads 0 x (with_task (term_task (term_of c.in_ok-work-in-Some.field-0.now)) (state_of c.work.new.self))) (sym is) c.in_ok-work-in-Some.ensures.leads;
      kept = λ old.
          let t = one_taken _ _ _ old c.in-Some.work _ c.in-Some.ensures in
          c.in_ok-work-in-Some.ensures.kept t.0 t.1;
    }
