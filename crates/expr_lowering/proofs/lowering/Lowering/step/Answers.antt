use Rattle.std.proofs.Common.{Option, MatchOption, subst}
use Rattle.std.specs.Borrow.{Bor}
use Rattle.expr_tree.specs.TermOf.{term_of}
use Rattle.expr_tree.specs.declared.node.Node.{Node}
use Rattle.expr_lowering.specs.Leading.{Leads, with_task}
use Rattle.expr_lowering.specs.States.{state_of}
use Rattle.expr_lowering.specs.Tasks.{term_task}
use Rattle.expr_lowering.proofs.AtPoint.{next_goes}
use Rattle.expr_lowering.specs.Keeping.{NextKeeps}
use Rattle.expr_lowering.proofs.lowering.Lowering.step.Goals as goal

pub returns-in-None-clause-leads : goal.returns-in-None-clause-leads
returns-in-None-clause-leads c =
    let from = with_task (term_task (term_of c.args.node.now)) (state_of c.args.self.now) in
    let mid = state_of c.form.new.self in
    next_goes from mid _ _ c.next.result (
    subst (λ (o : Option (Bor Node)). MatchOption o (Leads 1 from mid) (λ n. Leads 1 from (with_task (term_task (term_of n.now)) mid))) c.in-None.is c.in_ok-part.ensures.leads
    ) c.next.ensures.leads

pub returns-in-None-clause-kept : goal.returns-in-None-clause-kept
returns-in-None-clause-kept c = λ n old.
    let q = c.in_ok-part.ensures.kept n old in
    c.next.ensures.kept q.1

pub returns-in-Some-clause-kept : goal.returns-in-Some-clause-kept
returns-in-Some-clause-kept c = λ n old.
    let q = c.in_ok-part.ensures.kept n old in
    (subst NextKeeps c.in-Some.is q.0, q.1)
