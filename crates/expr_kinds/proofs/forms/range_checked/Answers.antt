use Rattle.std.proofs.Common.{◌≡◌, sym, ap, ◌∙◌}
use Rattle.expr_tree.specs.Term.{range}
use Rattle.expr_schema.specs.Kinds.{array, integer}
use Rattle.expr_schema.specs.KindView.{kind_view}
use Rattle.expr_schema.specs.SchemaView.{effect_of}
use Rattle.expr_schema.proofs.Shapes.{kind_view-Integer}
use Rattle.expr_kinds.proofs.Judged.{fits-same}
use Rattle.expr_kinds.proofs.Told.{told-range}
use Rattle.expr_kinds.proofs.forms.range_checked.Goals as goal

pub returns-in_ok-kind-in-Some-clause-ok : goal.returns-in_ok-kind-in-Some-clause-ok
returns-in_ok-kind-in-Some-clause-ok c = λ s a b ha hb e covers.
    let k = kind_view c.in_ok-kind-in-Some.kind in
    let is : k ≡ array integer = c.in_ok-kind-in-Some.ensures.ok ∙ ap array kind_view-Integer in
    told-range c.args.first.now c.args.last.now (effect_of c.in-Some.effect) c.in-Some.ensures.left c.in-Some.ensures.right k (fits-same (array integer) k (sym is)) s a b ha hb e covers

pub returns-in-None-clause-ok : goal.returns-in-None-clause-ok
returns-in-None-clause-ok c = λ s a b ha hb. c.unknown.ensures.tree s (range a b)
