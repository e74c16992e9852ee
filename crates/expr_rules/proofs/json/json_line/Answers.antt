use Rattle.std.proofs.Common.{ap, ◌∙◌}
use Rattle.std.proofs.lemmas.Result.{IfOk-weaker}
use Rattle.serde_json.specs.Written.{compact_text, has_float}
use Rattle.expr_rules.proofs.Plain.{rule_plain}
use Rattle.expr_rules.proofs.json.json_line.Goals as goal

pub returns : goal.returns
returns c =
    let same = c.in_ok-made.ensures in
    IfOk-weaker c.to_string.result _ _ (λ line h. h (ap has_float same ∙ rule_plain c.args.file.now c.args.rule.now) ∙ ap compact_text same) c.to_string.ensures.text
