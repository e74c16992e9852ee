use Rattle.std.proofs.Common.{Vec, Global, sym, subst, ap, ◌∙◌}
use Rattle.expr_tree.specs.TermOf.{program_term}
use Rattle.expr_lowering.specs.Leading.{Writes, at_block_start}
use Rattle.expr_lowering.specs.States.{LentInstruction, lent_ops, state_of}
use Rattle.expr_lowering.proofs.Pending.{writes_on}
use Rattle.expr_lowering.proofs.Patterns.{none_written}
use Rattle.expr_lowering.specs.Keeping.{BlockLentKeeps}
use Rattle.expr_lowering.proofs.lowering.Lowering.block.Goals as goal

pub returns-clause-block : goal.returns-clause-block
returns-clause-block c =
    let b = program_term c.args.program.now in
    let old = at_block_start c.args.earlier (state_of c.args.self.now) in
    let left = lent_ops c.replace.new.dest.items in
    subst (λ (v : Vec LentInstruction Global). Writes old b (record (state_of c.write.new.self) { ops = left }) (lent_ops v.items)) (sym c.replace.ensures.value) (
    writes_on old (state_of c.write.new.self) b (lent_ops c.write.new.self.block.items) left c.in_ok-write.ensures.block
    )

pub returns-clause-kept : goal.returns-clause-kept
returns-clause-kept c = λ p old.
    let q = c.in_ok-write.ensures.kept p old in
    (subst (λ (v : Vec LentInstruction Global). BlockLentKeeps v.items) (sym c.replace.ensures.value) q.written, none_written _ _ _ q _ (ap (λ (v : Vec LentInstruction Global). v.items) c.replace.ensures.after ∙ c.new.ensures.items))
