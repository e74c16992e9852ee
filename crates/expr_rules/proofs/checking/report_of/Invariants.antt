use Rattle.std.proofs.Common.{take}
use Rattle.expr_rules.specs.Reports.{ReportsOn}
use Rattle.expr_rules.proofs.checking.report_of.Given as goal

abbrev pub invariant-loop-rule : goal.invariant-loop-rule
invariant-loop-rule l = ReportsOn (take l.rule-index l.checked) l.is_json l.file l.fn.totals l.report
