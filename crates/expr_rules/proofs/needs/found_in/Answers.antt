use Rattle.std.proofs.Common.{◌≡◌, [], rules}
use Rattle.expr_tree.specs.TermOf.{program_term}
use Rattle.expr_rules.specs.Needs.{asked_by_block}
use Rattle.expr_rules.specs.Tasks.{nothing}
use Rattle.expr_rules.proofs.Walking.{walk_begins, walk_goes_on, walk_falls, walk_ends}
use Rattle.expr_rules.proofs.needs.found_in.Goals as goal

pub loop-task-init : goal.loop-task-init
loop-task-init c =
    walk_begins c.args.asked c.args.pending.items c.put_program.new.pending.items _ _ (asked_by_block c.args.asked (program_term c.args.program.now)) c.requires.found c.requires.scope c.requires.pending (c.in_ok-put_program.ensures.asked c.args.asked nothing)

pub loop-task-preserved : goal.loop-task-preserved
loop-task-preserved c =
    walk_goes_on c.args.asked c.in-Some.task _ _ c.loop-task.pending.items c.pop.new.self.items _ _ c.take_up.new.pending.items (asked_by_block c.args.asked (program_term c.args.program.now)) c.loop-task.invariant c.in-Some.ensures.items c.in_ok-take_up.ensures

pub loop-task-smaller : goal.loop-task-smaller
loop-task-smaller c =
    walk_falls c.args.asked c.in-Some.task _ _ c.loop-task.pending.items c.pop.new.self.items _ _ c.take_up.new.pending.items c.in-Some.ensures.items c.in_ok-take_up.ensures

pub returns : goal.returns
returns c =
    let none : c.loop-task.pending.items ≡ [] = search rules in
    walk_ends c.args.asked c.loop-task.pending.items _ _ (asked_by_block c.args.asked (program_term c.args.program.now)) none c.loop-task.invariant
