use Rattle.std.proofs.Common.{◌≡◌, ◌∷◌, [], ap, ◌∙◌, reverse, sym, subst}
use Rattle.std.proofs.lemmas.List.{reverse-append}
use Rattle.expr_stack.specs.Stacked.{AreFilled, HasOwnValues, cells_of_entries, entries_of}
use Rattle.expr_stack.specs.declared.entry.Entry.TheVariants.{Own}
use Rattle.expr_stack.proofs.Entries.{Stand, stand_put, stand_skip}
use Rattle.expr_stack.proofs.stack.Stack.push_kept.Goals as goal
use Rattle.expr_stack.proofs.stack.Stack.push_kept.Goals.{then-len-capacity+in_ok-reserve, else-len-capacity, then-is_some+in_ok-put_below, else-is_some}

pub invariant_of-self-2 : goal.invariant_of-self-2
invariant_of-self-2 g c =
    let start = c.if-len-capacity.self-inside in
    let fits : AreFilled (entries_of start.top start.under start.below.items) × (HasOwnValues (entries_of start.top start.under start.below.items) (reverse start.own.items)
    × (cells_of_entries (entries_of start.top start.under start.below.items) (reverse start.own.items) ≡ c.args.self.now)) =
    elim c.if-len-capacity.branch [
      | then-len-capacity+in_ok-reserve w ↦ rw (w.self-inside-is, w.reserve.ensures.items) (c.self.invariant.0, (c.self.invariant.1, c.self.view_is))
      | else-len-capacity w ↦ rw w.self-inside-is (c.self.invariant.0, (c.self.invariant.1, c.self.view_is))
    ] in
    let s : Stand c.if-is_some.self-inside.top c.if-is_some.self-inside.below.items (reverse c.if-is_some.self-inside.own.items) c.args.self.now =
    elim c.if-is_some.branch [
      | then-is_some+in_ok-put_below w ↦ rw w.self-inside-is (stand_put start.top start.under start.below.items _ (reverse start.own.items) c.args.self.now w.in_ok-put_below.ensures.put fits.0 fits.1.0 fits.1.1)
      | else-is_some w ↦ rw w.self-inside-is (stand_skip start.top start.under start.below.items (reverse start.own.items) c.args.self.now w.if-is_some.ensures fits.0 fits.1.0 fits.1.1)
    ] in
    let turned : reverse c.push_reserved.new.self.items ≡ c.args.value ∷ reverse c.if-is_some.self-inside.own.items =
    ap reverse c.push_reserved.ensures.items ∙ reverse-append c.if-is_some.self-inside.own.items (c.args.value ∷ []) in
    (s.0, subst (HasOwnValues (Own ∷ c.if-is_some.self-inside.top ∷ reverse c.if-is_some.self-inside.below.items)) (sym turned) s.1.0)
