use Rattle.std.proofs.Common.{rules}
use Rattle.expr_syntax.proofs.Matches.{light_without}
use Rattle.expr_syntax.proofs.Weighing.{ended_light, weighed_heavier, weighed_more, weighed_none}
use Rattle.expr_syntax.proofs.bounded.is_light.Goals as goal

pub returns-then-not-has_matches-clause-answer : goal.returns-then-not-has_matches-clause-answer
returns-then-not-has_matches-clause-answer c =
    light_without c.args.code.now c.args.patterns (search rules)

pub loop-token-init : goal.loop-token-init
loop-token-init c = weighed_none c.args.code.now c.args.patterns

pub loop-token-preserved : goal.loop-token-preserved
loop-token-preserved c =
    let l = c.loop-token in
    let read = l.invariant in
    let more = rw c.in-Token.is at (c.in_ok-token.ensures.goes_on read.tokens read.starts read.begins) in
    weighed_more c.args.code.now c.args.patterns l.at l.left l.is_behind read c.in-Token.token c.in-Token.field-1 c.in-Token.end more
    c.in-Some.rest c.is_behind_matches-is_next_behind.result c.in-Some.ensures c.is_behind_matches-is_next_behind.ensures

pub returns-in_default-remaining_weight-clause-answer : goal.returns-in_default-remaining_weight-clause-answer
returns-in_default-remaining_weight-clause-answer c =
    let l = c.loop-token in
    let read = l.invariant in
    let more = rw c.in-Token.is at (c.in_ok-token.ensures.goes_on read.tokens read.starts read.begins) in
    weighed_heavier c.args.code.now c.args.patterns l.at l.left l.is_behind read c.in-Token.token c.in-Token.field-1 c.in-Token.end more
    c.in_default-remaining_weight.ensures

pub returns : goal.returns
returns c =
    let l = c.loop-token in
    let read = l.invariant in
    record {
      answer = ended_light c.args.code.now c.args.patterns l.at l.left l.is_behind read c.in_ok-token.field-0
          (c.in_ok-token.ensures.goes_on read.tokens read.starts read.begins) c.in_ok-token.ensures.within c.in_default.not-Token;
      refused = tt;
    }
