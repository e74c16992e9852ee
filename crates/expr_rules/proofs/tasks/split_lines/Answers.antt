use Rattle.std.proofs.lemmas.Result.{on_ok_weaker}
use Rattle.expr_rules.proofs.Splitting.{line_split}
use Rattle.expr_rules.proofs.tasks.split_lines.Goals as goal

pub returns-in_ok-push-in-Some-3 : goal.returns-in_ok-push-in-Some-3
returns-in_ok-push-in-Some-3 c =
    on_ok_weaker c.put_one-in-Some.result
    (λ h. line_split c.args.pending.now.items c.push.new.self.items c.push-in-Some.new.self.items c.push-in-Some-2.new.self.items c.put_one-in-Some.new.pending.items c.as_str.result c.in-Some.rest c.args.last c.in-Some.line.now
    c.in_ok-push-in-Some.ensures.items c.in_ok-push-in-Some-2.ensures.items c.in_ok-push-in-Some-3.ensures.items c.as_str.ensures.value h c.args.lines.now c.in-Some.ensures.cases.0)
    c.put_one-in-Some.ensures
