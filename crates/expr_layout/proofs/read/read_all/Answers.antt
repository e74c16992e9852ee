use Rattle.std.proofs.Common.{sym, ◌∙◌, arith}
use Rattle.expr_layout.proofs.Findings.{read_differs, read_end, read_left, read_more, read_stuck}
use Rattle.expr_layout.proofs.read.read_all.Goals as goal

pub returns-in_default : goal.returns-in_default
returns-in_default c =
    sym (read_stuck c.args.tokens.now c.loop-i.i _ c.loop-i.known c.loop-i.rest.now (omega arith) (sym c.in_default.ensures)) ∙ c.loop-i.invariant

pub returns-in_default-with_finding : goal.returns-in_default-with_finding
returns-in_default-with_finding c =
    sym (read_differs c.args.tokens.now c.loop-i.i _ c.loop-i.known c.loop-i.rest.now c.in-Some.behind.now c.in-Some.finding (omega arith) (sym c.in-Some.ensures) (sym c.in_default-with_finding.ensures)) ∙ c.loop-i.invariant

pub loop-i-preserved : goal.loop-i-preserved
loop-i-preserved c =
    sym (read_more c.args.tokens.now c.loop-i.i _ c.loop-i.known c.in-Some-with_finding.more c.loop-i.rest.now c.in-Some.behind.now c.in-Some.finding (omega arith) (sym c.in-Some.ensures) (sym c.in-Some-with_finding.ensures)) ∙ c.loop-i.invariant

pub returns-then-is_empty : goal.returns-then-is_empty
returns-then-is_empty c =
    sym (read_end c.args.tokens.now c.loop-i.i c.loop-i.known c.loop-i.rest.now c.loop-i-test.false (sym c.if-is_empty.ensures)) ∙ c.loop-i.invariant

pub returns-else-is_empty : goal.returns-else-is_empty
returns-else-is_empty c =
    sym (read_left c.args.tokens.now c.loop-i.i c.loop-i.known c.loop-i.rest.now c.loop-i-test.false (sym c.if-is_empty.ensures)) ∙ c.loop-i.invariant
