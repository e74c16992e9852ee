use Rattle.std.proofs.Common.{◌≡◌, pos, ◌+ℤ◌, [], ◌∷◌, ◌++◌, length, ap, sym, ◌∙◌, arith}
use Rattle.std.proofs.lemmas.Int.{ints, to_z-of_z}
use Rattle.expr_value.specs.declared.value.Value as value
use Rattle.expr_operators.specs.Positions.{in_a_row}
use Rattle.expr_operators.proofs.Counting.{in_a_row-none, in_a_row-next, length-next, how_many-up, how_many-down}
use Rattle.expr_operators.proofs.positions.count_up.Goals as goal

pub returns-then-first-last-clause-ok : goal.returns-then-first-last-clause-ok
returns-then-first-last-clause-ok c =
    c.new.ensures.items ∙ sym (in_a_row-none c.args.first) ∙ ap (in_a_row c.args.first) (sym (how_many-down c.args.first c.args.last (omega (arith, ints))))

pub loop-integer-init : goal.loop-integer-init
loop-integer-init c =
    let none = c.in_ok-integers.ensures.items in
    let short : length c.in_ok-integers.integers.items ≡ 0 = ap length none in
    record {
      next = omega (arith, ints);
      row = none ∙ sym (in_a_row-none _) ∙ ap (in_a_row _) (sym short);
      within = omega (arith, ints);
      long = c.in_ok-integers.ensures.len ∙ sym short;
      room = omega (arith, ints, c.in_ok-integers.ensures.exact, c.in-Some.ensures, c.abs_diff.ensures);
    }

pub loop-integer-preserved : goal.loop-integer-preserved
loop-integer-preserved c =
    let long = length-next _ c.loop-integer.integers.items c.push_reserved.new.self.items c.push_reserved.ensures.items in
    record {
      next = omega (arith, ints, c.loop-integer.invariant.next);
      row = in_a_row-next _ _ c.loop-integer.integers.items c.push_reserved.new.self.items c.loop-integer.invariant.row c.loop-integer.invariant.next c.push_reserved.ensures.items;
      within = omega (arith, ints);
      long = omega (arith, long, c.loop-integer.invariant.long, c.push_reserved.ensures.len);
      room = omega (arith, ints, c.loop-integer.invariant.room, c.push_reserved.ensures.capacity);
    }

pub returns-clause-ok : goal.returns-clause-ok
returns-clause-ok c =
    let f = to_z-of_z _ c.args.first c.ranges.first in
    let here : c.args.last ≡ c.args.first +ℤ pos (length c.loop-integer.integers.items) = omega (arith, ints, c.loop-integer.invariant.next) in
    let items = c.loop-integer.integers.items in
    let pushed = c.push_reserved-2.ensures.items ∙ ap (λ z. items ++ value.Integer z ∷ []) (to_z-of_z _ c.args.last c.ranges.last) in
    let long = length-next _ items c.push_reserved-2.new.self.items pushed in
    in_a_row-next c.args.first c.args.last items c.push_reserved-2.new.self.items (c.loop-integer.invariant.row ∙ ap (λ z. in_a_row z (length items)) f) here pushed
    ∙ ap (in_a_row c.args.first) (long ∙ sym (how_many-up c.args.first c.args.last (length items) here))
