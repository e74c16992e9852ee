use Rattle.std.proofs.Common.{◌≡◌, ◌++◌, length, rules, sym, ap, ◌∙◌, subst}
use Rattle.std.proofs.lemmas.Result.{on_ok_weaker}
use Rattle.expr_tree.specs.TermOf.{term_of}
use Rattle.expr_rules.specs.Tasks.{TakesUp, hidden, own_asked}
use Rattle.expr_rules.proofs.Taking.{node_taken, outer_pop, unbind_taken}
use Rattle.expr_rules.proofs.Walking.{keys}
use Rattle.expr_rules.proofs.needs.take_up.Goals as goal

pub returns-in_ok-note-in-Node : goal.returns-in_ok-note-in-Node
returns-in_ok-note-in-Node c =
    let scope = keys c.args.scope.now.items in
    let found = keys c.args.found.now.items in
    let own = own_asked c.args.asked (term_of c.in-Node.node.now) in
    let is = c.in_ok-note-in-Node.ensures ∙ ap (λ l. found ++ hidden c.args.asked (keys l) own) c.deref.ensures.value in
    on_ok_weaker c.put_parts.result
    (λ h. subst (λ t. TakesUp c.args.asked t scope found c.args.pending.now.items scope (keys c.note.new.found.items) c.put_parts.new.pending.items) (sym c.in-Node.is)
    (node_taken c.args.asked c.in-Node.node scope found (keys c.note.new.found.items) c.args.pending.now.items c.put_parts.new.pending.items is h))
    c.put_parts.ensures

pub returns-in-Unbind : goal.returns-in-Unbind
returns-in-Unbind c =
    let held = c.args.scope.now in
    let found = keys c.args.found.now.items in
    let len : held.len ≡ length held.items = search rules in
    subst (λ t. TakesUp c.args.asked t (keys held.items) found c.args.pending.now.items (keys c.pop.new.self.items) found c.args.pending.now.items) (sym c.in-Unbind.is)
    (unbind_taken c.args.asked held.items c.pop.new.self.items found c.args.pending.now.items (outer_pop held.items c.pop.new.self.items c.pop.result held.len c.pop.ensures.items c.pop.ensures.variant len))
