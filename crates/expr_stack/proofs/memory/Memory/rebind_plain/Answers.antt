use Rattle.std.proofs.Common.{◌+◌, ◌≤◌, ap, ◌∙◌, length, set, subst, sym, take}
use Rattle.expr_code.specs.CallBinds.{bound_count}
use Rattle.expr_predicates.specs.Folds.{number}
use Rattle.expr_predicates.specs.Plains.{plain_value}
use Rattle.expr_stack.specs.Cells.{AreWithin}
use Rattle.expr_stack.proofs.Rebound.{rebound_one, rebound_three, rebound_two}
use Rattle.expr_stack.proofs.memory.Memory.rebind_plain.Goals as goal

pub invariant_of-self : goal.invariant_of-self
invariant_of-self g c =
    let slot = c.args.slot in
    let places = c.args.places in
    let all = subst (λ b. slot + bound_count b ≤ length c.args.self.now.slots) c.in-Item.is c.requires.bound in
    let long = subst (λ m. slot + 1 ≤ length m.slots) (sym c.self.view_is) all in
    let below = subst (λ m. AreWithin places (take slot m.slots)) (sym c.self.view_is) c.requires.within in
    let r = rebound_one c.self.inside.kept.items c.cut_list.new.list.items c.self.inside.slots.items c.truncate.new.self.items slot places c.cut_list.ensures below c.self.invariant c.from_plain.result
    (plain_value c.args.item) long (c.truncate.ensures.items ∙ ap (take (slot + 1)) c.put_at.ensures) c.from_plain.ensures in
    r.1

pub returns-in-Item-clause-slots : goal.returns-in-Item-clause-slots
returns-in-Item-clause-slots g c =
    let slot = c.args.slot in
    let places = c.args.places in
    let all = subst (λ b. slot + bound_count b ≤ length c.args.self.now.slots) c.in-Item.is c.requires.bound in
    let long = subst (λ m. slot + 1 ≤ length m.slots) (sym c.self.view_is) all in
    let below = subst (λ m. AreWithin places (take slot m.slots)) (sym c.self.view_is) c.requires.within in
    let r = rebound_one c.self.inside.kept.items c.cut_list.new.list.items c.self.inside.slots.items c.truncate.new.self.items slot places c.cut_list.ensures below c.self.invariant c.from_plain.result
    (plain_value c.args.item) long (c.truncate.ensures.items ∙ ap (take (slot + 1)) c.put_at.ensures) c.from_plain.ensures in
    rw (c.in-Item.is, ← c.self.view_is) r.0

pub invariant_of-self-in-Index : goal.invariant_of-self-in-Index
invariant_of-self-in-Index g c =
    let slot = c.args.slot in
    let places = c.args.places in
    let all = subst (λ b. slot + bound_count b ≤ length c.args.self.now.slots) c.in-Index.is c.requires.bound in
    let long = subst (λ m. slot + 2 ≤ length m.slots) (sym c.self.view_is) all in
    let below = subst (λ m. AreWithin places (take slot m.slots)) (sym c.self.view_is) c.requires.within in
    let put = c.truncate-in-Index.ensures.items ∙ ap (take (slot + 2)) (c.put_at-in-Index.ensures ∙ ap (λ xs. set xs (slot + 1) c.index_operand.result) c.put_at.ensures) in
    let r = rebound_two c.self.inside.kept.items c.cut_list.new.list.items c.self.inside.slots.items c.truncate-in-Index.new.self.items slot places c.cut_list.ensures below c.self.invariant
    c.from_plain.result c.index_operand.result (plain_value c.args.item) (number c.args.place) long put c.from_plain.ensures c.index_operand.ensures in
    r.1

pub returns-in-Index-clause-slots : goal.returns-in-Index-clause-slots
returns-in-Index-clause-slots g c =
    let slot = c.args.slot in
    let places = c.args.places in
    let all = subst (λ b. slot + bound_count b ≤ length c.args.self.now.slots) c.in-Index.is c.requires.bound in
    let long = subst (λ m. slot + 2 ≤ length m.slots) (sym c.self.view_is) all in
    let below = subst (λ m. AreWithin places (take slot m.slots)) (sym c.self.view_is) c.requires.within in
    let put = c.truncate-in-Index.ensures.items ∙ ap (take (slot + 2)) (c.put_at-in-Index.ensures ∙ ap (λ xs. set xs (slot + 1) c.index_operand.result) c.put_at.ensures) in
    let r = rebound_two c.self.inside.kept.items c.cut_list.new.list.items c.self.inside.slots.items c.truncate-in-Index.new.self.items slot places c.cut_list.ensures below c.self.invariant
    c.from_plain.result c.index_operand.result (plain_value c.args.item) (number c.args.place) long put c.from_plain.ensures c.index_operand.ensures in
    rw (c.in-Index.is, ← c.self.view_is) r.0

pub invariant_of-self-in-Acc : goal.invariant_of-self-in-Acc
invariant_of-self-in-Acc g c =
    let slot = c.args.slot in
    let places = c.args.places in
    let all = subst (λ b. slot + bound_count b ≤ length c.args.self.now.slots) c.in-Acc.is c.requires.bound in
    let long = subst (λ m. slot + 3 ≤ length m.slots) (sym c.self.view_is) all in
    let below = subst (λ m. AreWithin places (take slot m.slots)) (sym c.self.view_is) c.requires.within in
    let mid = c.put_at-in-Acc.ensures ∙ ap (λ xs. set xs (slot + 1) c.index_operand-in-Acc.result) c.put_at.ensures in
    let put = c.truncate-in-Acc.ensures.items ∙ ap (take (slot + 3)) (c.put_at-in-Acc-2.ensures ∙ ap (λ xs. set xs (slot + 2) c.from_plain-in-Acc.result) mid) in
    let r = rebound_three c.self.inside.kept.items c.cut_list.new.list.items c.self.inside.slots.items c.truncate-in-Acc.new.self.items slot places c.cut_list.ensures below c.self.invariant
    c.from_plain.result c.index_operand-in-Acc.result c.from_plain-in-Acc.result (plain_value c.args.item) (number c.args.place) (plain_value c.args.acc) long put c.from_plain.ensures c.index_operand-in-Acc.ensures
    c.from_plain-in-Acc.ensures in
    r.1

pub returns-in-Acc-clause-slots : goal.returns-in-Acc-clause-slots
returns-in-Acc-clause-slots g c =
    let slot = c.args.slot in
    let places = c.args.places in
    let all = subst (λ b. slot + bound_count b ≤ length c.args.self.now.slots) c.in-Acc.is c.requires.bound in
    let long = subst (λ m. slot + 3 ≤ length m.slots) (sym c.self.view_is) all in
    let below = subst (λ m. AreWithin places (take slot m.slots)) (sym c.self.view_is) c.requires.within in
    let mid = c.put_at-in-Acc.ensures ∙ ap (λ xs. set xs (slot + 1) c.index_operand-in-Acc.result) c.put_at.ensures in
    let put = c.truncate-in-Acc.ensures.items ∙ ap (take (slot + 3)) (c.put_at-in-Acc-2.ensures ∙ ap (λ xs. set xs (slot + 2) c.from_plain-in-Acc.result) mid) in
    let r = rebound_three c.self.inside.kept.items c.cut_list.new.list.items c.self.inside.slots.items c.truncate-in-Acc.new.self.items slot places c.cut_list.ensures below c.self.invariant
    c.from_plain.result c.index_operand-in-Acc.result c.from_plain-in-Acc.result (plain_value c.args.item) (number c.args.place) (plain_value c.args.acc) long put c.from_plain.ensures c.index_operand-in-Acc.ensures
    c.from_plain-in-Acc.ensures in
    rw (c.in-Acc.is, ← c.self.view_is) r.0
