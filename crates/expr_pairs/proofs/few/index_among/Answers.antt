use Rattle.std.proofs.Common.{arith}
use Rattle.expr_pairs.proofs.Compared.{passed_by, found_at, found_none}
use Rattle.expr_pairs.proofs.few.index_among.Goals as goal

pub loop-at-init : goal.loop-at-init
loop-at-init g c = omega arith

pub returns-then-equivalent : goal.returns-then-equivalent
returns-then-equivalent g c =
    found_at (g.Q.Equivalent.equivalent c.args.key) c.args.keys.now c.loop-at.at c.index-keys-at.result c.equivalent.result
    c.loop-at.invariant c.loop-at-test.true c.index-keys-at.is c.equivalent.ensures c.if-equivalent.true

pub loop-at-preserved : goal.loop-at-preserved
loop-at-preserved g c =
    passed_by (g.Q.Equivalent.equivalent c.args.key) c.args.keys.now c.loop-at.at c.index-keys-at.result c.equivalent.result
    c.loop-at.invariant c.loop-at-test.true c.index-keys-at.is c.equivalent.ensures c.if-equivalent.false

pub returns : goal.returns
returns g c =
    found_none (g.Q.Equivalent.equivalent c.args.key) c.args.keys.now c.loop-at.at c.loop-at.invariant
    (omega (arith, c.loop-at.auto.at-end, c.loop-at-test.false))
