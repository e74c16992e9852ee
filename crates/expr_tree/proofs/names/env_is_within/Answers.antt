use Rattle.std.proofs.Common.{◌≡◌, ◌++◌, [], rules, refl, sym, ap, ◌∙◌}
use Rattle.std.proofs.lemmas.Bool.{false≢true}
use Rattle.expr_tree.specs.LentChildren.{lent_terms, program_children}
use Rattle.expr_tree.specs.Names.{env, block_operands}
use Rattle.expr_tree.specs.TermOf.{term_of, program_term}
use Rattle.expr_tree.proofs.Rising.{has-from_Contains, Contains-from_has}
use Rattle.expr_tree.proofs.Waiting.{lent-push, seeks_at_first, seeks_next, sought_found, sought_in_vain, weight_falls}
use Rattle.expr_tree.proofs.names.env_is_within.Goals as goal

pub loop-node-init : goal.loop-node-init
loop-node-init c =
    seeks_at_first (lent_terms c.wait_for_program.new.waiting.items) (program_term c.args.program.now)
    (c.in_ok-wait_for_program.ensures ∙ ap (λ l. lent_terms l ++ program_children c.args.program.now) c.requires)

pub loop-node-preserved : goal.loop-node-preserved
loop-node-preserved c =
    seeks_next (lent_terms c.loop-node.waiting.items) (lent_terms c.pop.new.self.items) (lent_terms c.wait_for_children.new.waiting.items) (term_of c.in-Some.node.now) (program_term c.args.program.now)
    c.loop-node.invariant (ap lent_terms c.in-Some.ensures.items ∙ lent-push c.pop.new.self.items c.in-Some.node) (sym c.is_env.ensures ∙ c.if-is_env.false) c.in_ok-wait_for_children.ensures

pub loop-node-smaller : goal.loop-node-smaller
loop-node-smaller c =
    weight_falls (lent_terms c.loop-node.waiting.items) (lent_terms c.pop.new.self.items) (lent_terms c.wait_for_children.new.waiting.items) (term_of c.in-Some.node.now)
    (ap lent_terms c.in-Some.ensures.items ∙ lent-push c.pop.new.self.items c.in-Some.node) c.in_ok-wait_for_children.ensures

pub returns-then-is_env-clause-ok : goal.returns-then-is_env-clause-ok
returns-then-is_env-clause-ok c =
    let b = program_term c.args.program.now in
    let popped = ap lent_terms c.in-Some.ensures.items ∙ lent-push c.pop.new.self.items c.in-Some.node in
    let there = sought_found (lent_terms c.loop-node.waiting.items) (lent_terms c.pop.new.self.items) (term_of c.in-Some.node.now) b c.loop-node.invariant popped (sym c.is_env.ensures ∙ c.if-is_env.true) in
    (λ h. Contains-from_has env (block_operands b) there, λ h. refl)

pub returns-clause-ok : goal.returns-clause-ok
returns-clause-ok c =
    let none : lent_terms c.loop-node.waiting.items ≡ [] = search rules in
    let b = program_term c.args.program.now in
    let vain = sought_in_vain (lent_terms c.loop-node.waiting.items) b c.loop-node.invariant none in
    (λ h. absurd (false≢true h), λ h. absurd (false≢true (sym vain ∙ has-from_Contains env (block_operands b) h)))
