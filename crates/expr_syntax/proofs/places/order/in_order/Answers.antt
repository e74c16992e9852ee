use Rattle.std.proofs.Common.{◌≡◌, [], None, rules, ap, ◌∙◌}
use Rattle.expr_syntax.specs.Places.{parts_in}
use Rattle.expr_syntax.specs.Waits.{waits}
use Rattle.expr_tree.specs.Children.{block_children}
use Rattle.expr_tree.specs.TermOf.{program_term, term_of}
use Rattle.expr_syntax.proofs.Walking.{meets_all, meets_next, parts_fall, waits-push, walked, walked_count}
use Rattle.expr_syntax.proofs.places.order.in_order.Goals as goal

pub loop-next-smaller : goal.loop-next-smaller
loop-next-smaller c =
    parts_fall (waits c.loop-next.waiting.items) (waits c.pop.new.self.items) (waits c.wait_for_children.new.waiting.items) (c.in-Some.next.within, term_of c.in-Some.next.node.now) c.in-Some-place_of.place
    (ap waits c.in-Some.ensures.items ∙ waits-push c.pop.new.self.items c.in-Some.next) c.in_ok-wait_for_children.ensures

pub loop-next-preserved : goal.loop-next-preserved
loop-next-preserved c =
    meets_next c.args.text.now (parts_in None (block_children (program_term c.args.program.now))) c.loop-next.places.items c.push.new.self.items (waits c.loop-next.waiting.items) (waits c.pop.new.self.items) (waits c.wait_for_children.new.waiting.items)
    (c.in-Some.next.within, term_of c.in-Some.next.node.now) c.in-Some-place_of.place
    c.loop-next.invariant (ap waits c.in-Some.ensures.items ∙ waits-push c.pop.new.self.items c.in-Some.next) c.in-Some-place_of.ensures c.in_ok-push.ensures.items c.in_ok-wait_for_children.ensures

pub returns-clause-places : goal.returns-clause-places
returns-clause-places c =
    let text = c.args.text.now in
    let b = program_term c.args.program.now in
    let none : waits c.loop-next.waiting.items ≡ [] = search rules in
    walked text b c.loop-next.places.items c.reverse.new.self.items (meets_all text (parts_in None (block_children b)) c.loop-next.places.items (waits c.loop-next.waiting.items) c.loop-next.invariant none) c.reverse.ensures.items

pub returns-clause-count : goal.returns-clause-count
returns-clause-count c =
    let text = c.args.text.now in
    let b = program_term c.args.program.now in
    let none : waits c.loop-next.waiting.items ≡ [] = search rules in
    walked_count text b c.loop-next.places.items c.reverse.new.self.items (meets_all text (parts_in None (block_children b)) c.loop-next.places.items (waits c.loop-next.waiting.items) c.loop-next.invariant none) c.reverse.ensures.items
