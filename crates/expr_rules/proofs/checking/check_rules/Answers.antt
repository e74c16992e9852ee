use Rattle.std.proofs.Common.{[], ◌∷◌, map, take, sym, ap, ◌∙◌, subst}
use Rattle.std.proofs.lemmas.List.{take_more, map-append}
use Rattle.expr_rules.specs.Checked.{AreChecked}
use Rattle.expr_rules.specs.Rules.{numbered_text}
use Rattle.expr_rules.proofs.Reporting.{checked_more}
use Rattle.expr_rules.proofs.checking.check_rules.Goals as goal

pub loop-rule-preserved : goal.loop-rule-preserved
loop-rule-preserved c =
    let rs = c.args.rules.now in
    let i = c.loop-rule.rule-index in
    let manner = c.args.manner.now in
    subst (λ l. AreChecked manner.limits manner.wishes l c.push.new.self.items) (sym (ap (map numbered_text) (take_more rs i _ c.loop-rule-test.true) ∙ map-append numbered_text (take i rs) (_ ∷ [])))
    (checked_more manner.limits manner.wishes (map numbered_text (take i rs)) c.loop-rule.checked.items c.push.new.self.items _ _ c.check_rule.result c.loop-rule.invariant c.check_rule.ensures.line c.check_rule.ensures.outcome c.in_ok-push.ensures.items)
