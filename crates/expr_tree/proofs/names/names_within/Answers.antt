use Rattle.std.proofs.Common.{◌≡◌, ◌++◌, [], map, string_bytes, rules, sym, ap, ◌∙◌, subst}
use Rattle.expr_tree.specs.LentChildren.{lent_terms, program_children}
use Rattle.expr_tree.specs.TermOf.{term_of, program_term}
use Rattle.expr_tree.proofs.Waiting.{Gathers, gathers_at_first, gathers_next, weight_falls, gathered_names, lent-push}
use Rattle.expr_tree.proofs.names.names_within.Goals as goal

pub loop-node-init : goal.loop-node-init
loop-node-init c =
    gathers_at_first c.new-names.result (lent_terms c.wait_for_program.new.waiting.items) (program_term c.args.program.now) c.new-names.ensures
    (c.in_ok-wait_for_program.ensures ∙ ap (λ l. lent_terms l ++ program_children c.args.program.now) c.requires)

pub loop-node-preserved : goal.loop-node-preserved
loop-node-preserved c =
    gathers_next c.loop-node.names c.gather.new.names (lent_terms c.loop-node.waiting.items) (lent_terms c.pop.new.self.items) (lent_terms c.gather.new.waiting.items) (term_of c.in-Some.node.now) (program_term c.args.program.now)
    c.loop-node.invariant (ap lent_terms c.in-Some.ensures.items ∙ lent-push c.pop.new.self.items c.in-Some.node) c.in_ok-gather.ensures.names c.in_ok-gather.ensures.waiting

pub loop-node-smaller : goal.loop-node-smaller
loop-node-smaller c =
    weight_falls (lent_terms c.loop-node.waiting.items) (lent_terms c.pop.new.self.items) (lent_terms c.gather.new.waiting.items) (term_of c.in-Some.node.now)
    (ap lent_terms c.in-Some.ensures.items ∙ lent-push c.pop.new.self.items c.in-Some.node) c.in_ok-gather.ensures.waiting

pub returns-clause-ok : goal.returns-clause-ok
returns-clause-ok c =
    let none : lent_terms c.loop-node.waiting.items ≡ [] = search rules in
    let ws = lent_terms c.loop-node.waiting.items in
    gathered_names (map string_bytes c.in_ok-into_vec.field-0.items) ws (program_term c.args.program.now) c.in_ok-into_vec.ensures.ascending
    (subst (λ ns. Gathers ns ws (program_term c.args.program.now)) (sym c.in_ok-into_vec.ensures.names) c.loop-node.invariant) none
