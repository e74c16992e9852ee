use Rattle.std.proofs.Common.{ap, ◌∙◌, sym}
use Rattle.expr_builtins.specs.Distinct.{with_new}
use Rattle.expr_builtins.proofs.Unlike.{distinct-push}
use Rattle.expr_builtins.proofs.distinct.distinct_few.Goals as goal

pub loop-item-preserved : goal.loop-item-preserved
loop-item-preserved c =
    c.in_ok-keep.ensures.ok ∙ ap (λ vs. with_new vs c.in-Some.item) c.loop-item.invariant ∙ sym (distinct-push c.loop-item.yielded c.in-Some.item)
