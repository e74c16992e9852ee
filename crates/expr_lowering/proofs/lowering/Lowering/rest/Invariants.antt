use Rattle.std.proofs.Common.{◌≡◌, [], MatchOption}
use Rattle.expr_tree.specs.TermOf.{term_of}
use Rattle.expr_lowering.specs.Leading.{Leads, with_task}
use Rattle.expr_lowering.specs.Keeping.{Keeps, NextKeeps}
use Rattle.expr_lowering.specs.Kept.{NodeKeeps}
use Rattle.expr_lowering.specs.Lent.{worklist_of}
use Rattle.expr_lowering.specs.States.{state_of}
use Rattle.expr_lowering.specs.Tasks.{term_task}
use Rattle.expr_lowering.proofs.AtPoint.{left_load}
use Rattle.expr_lowering.proofs.lowering.Lowering.rest.Given as goal

abbrev pub invariant-loop-next : goal.invariant-loop-next
invariant-loop-next l = record {
  leads : MatchOption l.next ((worklist_of l.self.works.next l.self.works.rest.items ≡ []) × Leads 1 (with_task (term_task (term_of l.fn.node)) (state_of l.fn.self)) (state_of l.self)) (
      λ n. Leads 0 (with_task (term_task (term_of l.fn.node)) (state_of l.fn.self)) (with_task (term_task (term_of n.now)) (state_of l.self))
      );
  kept : NodeKeeps l.fn.node → Keeps l.fn.self → NextKeeps l.next × Keeps l.self;
}

abbrev pub decreases-loop-next : goal.decreases-loop-next
decreases-loop-next l = left_load l.next (state_of l.self)
