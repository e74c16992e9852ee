use Rattle.std.proofs.Common.{map, Bor, ap, ◌∙◌}
use Rattle.expr_value.proofs.SortedLemmas.{numbered_all, numbered_next}
use Rattle.expr_value.proofs.order.numbers_of.Goals as goal

pub loop-i-preserved : goal.loop-i-preserved
loop-i-preserved g c =
    ap (map (λ e. (e.0.now, e.1))) c.in_ok-insert.ensures.entries
    ∙ numbered_next (λ (b : Bor g.row.K.Denot). b.now) g.K.Ord.cmp c.args.keys.now c.loop-i.order.entries c.loop-i.i _ c.requires c.loop-i-test.true c.index-keys-i.is c.loop-i.invariant

pub returns : goal.returns
returns g c =
    numbered_all (λ (b : Bor g.row.K.Denot). b.now) g.K.Ord.cmp c.args.keys.now c.loop-i.order.entries c.loop-i.i c.loop-i-test.false c.loop-i.invariant
