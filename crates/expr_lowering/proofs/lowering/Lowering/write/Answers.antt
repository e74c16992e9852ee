use Rattle.std.proofs.Common.{map, refl, ap, sym, subst}
use Rattle.expr_tree.specs.TermOf.{program_term}
use Rattle.expr_lowering.specs.Leading.{at_block_start}
use Rattle.expr_lowering.specs.Lent.{task_of}
use Rattle.expr_lowering.specs.States.{lent_ops, state_of}
use Rattle.expr_lowering.proofs.Pending.{writes_block}
use Rattle.expr_lowering.proofs.AtPoint.{on_both, program_begins}
use Rattle.expr_lowering.proofs.Matches.{parts_program}
use Rattle.expr_lowering.proofs.Patterns.{none_written}
use Rattle.expr_lowering.specs.Kept.{LinesKeep}
use Rattle.expr_lowering.proofs.lowering.Lowering.write.Goals as goal

pub returns-clause-block : goal.returns-clause-block
returns-clause-block c =
    let begun = at_block_start c.args.earlier (state_of c.args.self.now) in
    let last = state_of c.rest.new.self in
    let b = program_term c.args.program.now in
    on_both c.rest.result (
    λ leads none. writes_block c.args.earlier (state_of c.args.self.now) last last b (
    program_begins begun _ _ _ c.args.program.now _ c.deref.ensures.value c.in_ok-lines.ensures.leads leads (
    λ i. record begun { tasks = map task_of (c.requires i); ops = lent_ops (c.in_ok-self.ensures.items i) }
    )
    ) (ap (map task_of) none) refl refl
    ) c.rest.ensures.written c.rest.ensures.done

pub returns-clause-kept : goal.returns-clause-kept
returns-clause-kept c = λ p old.
    let q = parts_program c.args.program.now p in
    c.rest.ensures.kept q.1 (c.in_ok-lines.ensures.kept (subst LinesKeep (sym c.deref.ensures.value) q.0) (none_written _ _ _ old _ c.in_ok-self.ensures.items))
