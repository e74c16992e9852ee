use Rattle.std.proofs.Common.{◌≡◌, ◌++◌, map}
use Rattle.expr_tree.specs.TermOf.{program_term}
use Rattle.expr_rules.specs.Needs.{asked_by_block}
use Rattle.expr_rules.specs.Tasks.{nothing, pending_asked, tasks_steps}
use Rattle.expr_rules.proofs.needs.found_in.Given as goal

-- what is found, and what the tasks still ask for, is all that the program asks for
abbrev pub invariant-loop-task : goal.invariant-loop-task
invariant-loop-task l =
    map (λ key. key.now) l.found.items ++ pending_asked l.asked l.pending.items nothing (map (λ key. key.now) l.scope.items) ≡ asked_by_block l.asked (program_term l.program)

abbrev pub decreases-loop-task : goal.decreases-loop-task
decreases-loop-task l = tasks_steps l.pending.items
