use Rattle.std.proofs.Common.{◌≡◌, [], length, drop, map}
use Rattle.expr_tree.specs.TermOf.{program_term}
use Rattle.expr_lowering.specs.Leading.{Progress, pending_weight}
use Rattle.expr_lowering.specs.Keeping.{BlockLentKeeps, BlocksLentKeep, Keeps}
use Rattle.expr_lowering.specs.Kept.{ProgramKeeps}
use Rattle.expr_lowering.specs.Lent.{pending_block_of, worklist_of}
use Rattle.expr_lowering.specs.States.{lent_blocks, state_of}
use Rattle.expr_lowering.proofs.lowering.Lowering.blocks.Given as goal

abbrev pub invariant-loop-self : goal.invariant-loop-self
invariant-loop-self l = record {
  progress : Progress (program_term l.fn.program) (state_of l.self) (length l.later.items) (lent_blocks l.first l.later);
  works : worklist_of l.self.works.next l.self.works.rest.items ≡ [];
  kept : ProgramKeeps l.fn.program → BlockLentKeeps l.first.items × BlocksLentKeep l.later.items × Keeps l.self;
}

abbrev pub decreases-loop-self : goal.decreases-loop-self
decreases-loop-self l = pending_weight (drop (length l.later.items) (map pending_block_of l.self.promised.items))
