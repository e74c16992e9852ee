use Rattle.std.proofs.Common.{true, false, drop, sym, subst, ap, ◌∙◌}
use Rattle.std.specs.Str.{IsCharBoundary}
use Rattle.std.proofs.lemmas.Str.Pattern.{starts_text}
use Rattle.expr_rules.specs.Rules.{byte_order_mark}
use Rattle.expr_rules.proofs.rule_text.body_of.Goals as goal

pub returns-in-Some : goal.returns-in-Some
returns-in-Some c =
    let (n, (same, split, boundary), left, _) = c.in-Some.ensures.cases in
    let text = c.args.text.now in
    rw (← starts_text true byte_order_mark text (n, (same, split, boundary), subst (IsCharBoundary text) (sym same) boundary)) (left ∙ ap (λ k. drop k text) same)

pub returns-in-None : goal.returns-in-None
returns-in-None c =
    rw (← starts_text false byte_order_mark c.args.text.now c.in-None.ensures.cases)
