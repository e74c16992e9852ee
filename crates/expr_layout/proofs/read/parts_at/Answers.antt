use Rattle.std.proofs.Common.{◌≤◌, sym, ◌∙◌, arith}
use Rattle.std.proofs.Math.Nat.{mul-le-mul_right}
use Rattle.expr_layout.proofs.Findings.{parts_end, parts_more}
use Rattle.expr_layout.proofs.read.parts_at.Goals as goal

pub loop-digit-preserved : goal.loop-digit-preserved
loop-digit-preserved c =
    let digit : c.in-Some.digit ≤ 9 = omega (arith, c.in-Some.ensures.small) in (
      sym (parts_more c.loop-digit.unit c.loop-digit.sum c.in-Some.digit c.loop-digit.rest.now c.in-Some.behind.now (sym c.in-Some.ensures.value)) ∙ c.loop-digit.invariant.0,
      omega (arith, mul-le-mul_right c.loop-digit.unit digit),
    )

pub returns : goal.returns
returns c = sym (parts_end c.loop-digit.unit c.loop-digit.sum c.loop-digit.rest.now (sym c.in_default.ensures.value)) ∙ c.loop-digit.invariant.0
