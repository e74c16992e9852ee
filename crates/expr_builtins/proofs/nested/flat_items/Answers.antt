use Rattle.std.proofs.Common.{[], ◌∷◌, ◌++◌, ap, ◌∙◌, sym, reverse}
use Rattle.expr_value.specs.declared.value.Value as value
use Rattle.expr_builtins.specs.Nested.{all_flat_items}
use Rattle.expr_builtins.proofs.Opening.{array_opened, array_smaller, other_opened, other_smaller}
use Rattle.expr_builtins.proofs.nested.flat_items.Goals as goal

pub loop-value-smaller-in-Ok : goal.loop-value-smaller-in-Ok
loop-value-smaller-in-Ok c =
    array_smaller c.loop-value.waiting.items c.pop.new.self.items c.in-Some.value c.in-Some.ensures.items c.in_ok-items-in-Ok.items.items c.append.new.self.items
    (c.in-Ok.ensures.array ∙ ap value.Array (sym c.in_ok-items-in-Ok.ensures.ok)) (c.in_ok-append-in-Ok.ensures.items ∙ ap (λ l. c.pop.new.self.items ++ l) c.reverse-in-Ok.ensures.items)

pub loop-value-preserved-in-Ok : goal.loop-value-preserved-in-Ok
loop-value-preserved-in-Ok c =
    ap (λ l. c.loop-value.found.items ++ l)
    (array_opened c.loop-value.waiting.items c.pop.new.self.items c.in-Some.value c.in-Some.ensures.items c.in_ok-items-in-Ok.items.items c.append.new.self.items
    (c.in-Ok.ensures.array ∙ ap value.Array (sym c.in_ok-items-in-Ok.ensures.ok)) (c.in_ok-append-in-Ok.ensures.items ∙ ap (λ l. c.pop.new.self.items ++ l) c.reverse-in-Ok.ensures.items))
    ∙ c.loop-value.invariant

pub loop-value-smaller : goal.loop-value-smaller
loop-value-smaller c = other_smaller c.loop-value.waiting.items c.pop.new.self.items c.in-Some.value c.in-Some.ensures.items

pub loop-value-preserved : goal.loop-value-preserved
loop-value-preserved c =
    let same = c.in-Err.ensures.itself in
    let waiting = c.in-Some.ensures.items ∙ ap (λ v. c.pop.new.self.items ++ v ∷ []) (sym same) in
    ap (λ l. l ++ all_flat_items (reverse c.pop.new.self.items)) c.in_ok-push-in-Err.ensures.items
    ∙ other_opened c.loop-value.waiting.items c.pop.new.self.items c.in-Err.value waiting c.loop-value.found.items c.in-Err.ensures.other
    ∙ c.loop-value.invariant
