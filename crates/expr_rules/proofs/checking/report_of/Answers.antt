use Rattle.std.proofs.Common.{◌++◌, [], ◌∷◌, take, sym, ap, ◌∙◌, subst}
use Rattle.std.proofs.lemmas.List.{take_more}
use Rattle.expr_rules.specs.Reports.{ReportsOn}
use Rattle.expr_rules.proofs.Reporting.{told_more}
use Rattle.expr_rules.proofs.checking.report_of.Goals as goal

pub loop-rule-preserved : goal.loop-rule-preserved
loop-rule-preserved c =
    let rs = c.args.checked.now in
    let i = c.loop-rule.rule-index in
    let r = c.rule-item.result in
    subst (λ l. ReportsOn l c.args.is_json c.args.file.now c.args.totals c.add.new.self) (sym (take_more rs i r c.loop-rule-test.true ∙ ap (λ n. take i rs ++ n ∷ []) (sym c.rule-item.is)))
    (told_more (take i rs) r c.args.is_json c.args.file.now c.args.totals c.loop-rule.report c.add.new.self c.loop-rule.invariant c.in_ok-add.ensures.out c.in_ok-add.ensures.err c.in_ok-add.ensures.totals)
